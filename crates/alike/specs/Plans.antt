-- What one record answers, from its parts' answers, as the code works it out.
use Rattle.std.specs.Prelude.{ℕ, Bool, true, false, eqb, Option, Some, None}
use Rattle.std.specs.Option.{option_map}
use Rattle.par.specs.declared.Node.{Node}
use Rattle.par.specs.declared.Node.TheVariants.{Silent, Event, Not, Either, Then, Repeat, Notify, Try}
use Rattle.par.specs.declared.Status.{Status}
use Rattle.par.specs.declared.Status.TheVariants.{Waiting, Success, Failure}
use Rattle.par.specs.Status.{opposite, higher, lower, tried}
use Rattle.par.specs.Expr.{join}
use Rattle.par.specs.Step.{pushed}
use Rattle.alike.specs.declared.plans.Part.{Part}
use Rattle.alike.specs.declared.plans.Rest.{Rest}
use Rattle.alike.specs.declared.plans.Rest.TheVariants.{Still, Old, New}
use Rattle.alike.specs.declared.plans.Plan.{Plan}

abbrev pub plan : ℕ → Status → Option Rest → Plan
plan n s r = record { notices = n; status = s; rest = r }

-- ---- what is left, by where the remainders of the parts stand: one of them, or a new record over them; none if one that it needs is not in the file

abbrev pub old : Option ℕ → Option Rest
old p = option_map Old p

abbrev pub new : (ℕ → Node) → Option ℕ → Option Rest
new over p = option_map (λ x. New (over x)) p

abbrev pub new_of_two : (ℕ → ℕ → Node) → Option ℕ → Option ℕ → Option Rest
new_of_two over (Some x) (Some y) = Some (New (over x y))
new_of_two over (Some x) None = None
new_of_two over None q = None

-- what is left while the part waits, else silent
abbrev pub rest_one : Status → Option Rest → Option Rest
rest_one Waiting r = r
rest_one Success r = Some Still
rest_one Failure r = Some Still

abbrev pub rest_next : Status → Option Rest → ℕ → Option Rest
rest_next Waiting r y = r
rest_next Success r y = Some (Old y)
rest_next Failure r y = Some Still

abbrev pub rest_either : Status → Status → Option ℕ → Option ℕ → Option Rest
rest_either Waiting Waiting p q = new_of_two Either p q
rest_either Waiting Success p q = Some Still
rest_either Waiting Failure p q = old p
rest_either Success t p q = Some Still
rest_either Failure Waiting p q = old q
rest_either Failure Success p q = Some Still
rest_either Failure Failure p q = Some Still

abbrev pub rest_try : Status → Status → Option ℕ → Option ℕ → Option Rest
rest_try Waiting Waiting p q = new_of_two Try p q
rest_try Waiting Success p q = Some Still
rest_try Waiting Failure p q = old p
rest_try Success t p q = Some Still
rest_try Failure t p q = Some Still

-- ---- the plans

abbrev pub plan_silent : Plan
plan_silent = plan 0 Waiting (Some Still)

abbrev pub plan_event : ℕ → Bool → Plan
plan_event r true = plan 0 Success (Some Still)
plan_event r false = plan 0 Waiting (Some (Old r))

unfoldable pub plan_not : Part → Plan
plan_not p = plan p.notices (opposite p.status) (rest_one p.status (new Not p.remains))

unfoldable pub plan_next : Part → ℕ → Plan
plan_next p y = plan p.notices (lower p.status Waiting) (rest_next p.status (new (λ x. Then x y) p.remains) y)

unfoldable pub plan_notify : Part → ℕ → Plan
plan_notify p A = plan (pushed p.status p.notices A) p.status (rest_one p.status (new (λ x. Notify x A) p.remains))

unfoldable pub plan_either : Part → Part → Plan
plan_either p q =
    plan (join p.notices q.notices) (higher p.status q.status) (rest_either p.status q.status p.remains q.remains)

unfoldable pub plan_try : Part → Part → Plan
plan_try p q =
    plan (join p.notices q.notices) (tried p.status q.status) (rest_try p.status q.status p.remains q.remains)

-- of record r, by its construct
abbrev pub plan_of : (ℕ → Part) → ℕ → ℕ → Node → Plan
plan_of part a r Silent = plan_silent
plan_of part a r (Event b) = plan_event r (eqb b a)
plan_of part a r (Not x) = plan_not (part x)
plan_of part a r (Either x y) = plan_either (part x) (part y)
plan_of part a r (Then x y) = plan_next (part x) y
plan_of part a r (Repeat x) = plan_next (part x) r
plan_of part a r (Notify x A) = plan_notify (part x) A
plan_of part a r (Try x y) = plan_try (part x) (part y)
