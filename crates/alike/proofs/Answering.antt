-- What a record answers, from what its parts answer: once its remainder is placed, a plan is right for the whole (`plan_right`, by the construct), so
-- the plan of record r is right for r where the entries before it are (`planned_right`).
use Prim.Native.Nat.{ℕ, ◌<◌}
use mathlib.Core.Path.{◌≡◌, refl, sym, ap, ap₂, subst}
use mathlib.Core.List.{List}
use mathlib.Core.Bool.{Bool, true, false}
use native.Mathlib.Omega.{arith}
use lib.Dec.{eqb}
use lib.ListN.{length}
use Rattle.std.specs.Prelude.{Option, Some}
use Rattle.par.specs.declared.Node.{Node}
use Rattle.par.specs.declared.Node.TheVariants.{Silent, Event, Not, Either, Then, Repeat, Notify, Try}
use Rattle.par.specs.declared.Status.{Status}
use Rattle.par.specs.declared.Status.TheVariants.{Waiting, Success, Failure}
use Rattle.par.specs.Status.{opposite, higher, lower, tried}
use Rattle.par.specs.Expr.{Expr, join}
use Rattle.par.specs.Expr.{Expr.silent, Expr.event, Expr.not, Expr.either, Expr.then, Expr.repeat, Expr.notify, Expr.try}
use Rattle.par.specs.Step.{status, notices, remainder, met, pushed, kept, then_rest, either_rest, try_rest}
use Rattle.par.specs.Records.{grow, Parts}
use Rattle.par.proofs.Records.{Match, Match.m_not, Match.m_either, Match.m_then, Match.m_notify, Match.m_try, parts_map, expr_step}
use Rattle.alike.specs.declared.plans.Part.{Part}
use Rattle.alike.specs.declared.entry.Entry.{Entry}
use Rattle.alike.specs.declared.plans.Plan.{Plan}
use Rattle.alike.specs.declared.plans.Rest.{Rest}
use Rattle.alike.specs.Closing.{Stands}
use Rattle.alike.specs.Tables.{record_of, expressions, Held}
use Rattle.alike.specs.Plans.{plan_event, plan_not, plan_next, plan_notify, plan_either, plan_try, plan_of}
use Rattle.alike.specs.Plans.{old, new, new_of_two, rest_one, rest_next, rest_either, rest_try}
use Rattle.alike.specs.List.{part_of, RestAt, Placed, Placed.there, Placed.missing, Right, Filled}
use Rattle.alike.proofs.Placing.{looked_placed, lacks_part}

-- a plan whose remainder stands at q
abbrev pub answered : Plan → Option ℕ → Part
answered p q = record { notices = p.notices; status = p.status; remains = q }

-- an event's, by whether it came
event_notices : (r : ℕ) (t : Bool) → (plan_event r t).notices ≡ 0
event_notices r true = refl
event_notices r false = refl

event_status : (r : ℕ) (t : Bool) → (plan_event r t).status ≡ met t
event_status r true = refl
event_status r false = refl

-- ---- the parts of a record, by what it matches

module _ {R : ℕ → Expr → Type 0} {d : Expr} where
  part_of_not : (m : Node) → Match R m (not d) → (x : ℕ) × R x d
  part_of_not m (m_not {x} f) = (x, f)

  part_of_notify : {A : ℕ} (m : Node) → Match R m (notify d A) → (x : ℕ) × R x d
  part_of_notify m (m_notify {x} f) = (x, f)

module _ {R : ℕ → Expr → Type 0} {d e : Expr} where
  part_of_then : (m : Node) → Match R m (then d e) → (x : ℕ) × R x d
  part_of_then m (m_then {x} f g) = (x, f)

  left_of_either : (m : Node) → Match R m (either d e) → (x : ℕ) × R x d
  left_of_either m (m_either {x} f g) = (x, f)

  right_of_either : (m : Node) → Match R m (either d e) → (y : ℕ) × R y e
  right_of_either m (m_either {y = y} f g) = (y, g)

  left_of_try : (m : Node) → Match R m (try d e) → (x : ℕ) × R x d
  left_of_try m (m_try {x} f g) = (x, f)

  right_of_try : (m : Node) → Match R m (try d e) → (y : ℕ) × R y e
  right_of_try m (m_try {y = y} f g) = (y, g)

module _ {ns : List Node} (held : Held ns) {still : Option ℕ} (at-still : Placed (expressions ns) (length ns) silent still) where
  -- ---- the remainder, by the statuses of the parts

  same_place : {e : Expr} {p q : Option ℕ} → Placed (expressions ns) (length ns) e p → q ≡ p → Placed (expressions ns) (length ns) e q
  same_place {e} h i = subst (Placed (expressions ns) (length ns) e) (sym i) h

  old_placed : {e : Expr} {p q : Option ℕ} → Placed (expressions ns) (length ns) e p → RestAt ns still (old p) q → Placed (expressions ns) (length ns) e q
  old_placed (there at) h = same_place (there at) h
  old_placed (missing at) h = same_place (missing at) h

  new_placed : {over : ℕ → Node} {d e : Expr} {p q : Option ℕ}
      → ((x : ℕ) → Stands (expressions ns) (length ns) d x → Match (λ p d. Stands (expressions ns) (length ns) d p) (over x) e)
      → ((m : Node) → Match (λ p d. Stands (expressions ns) (length ns) d p) m e → (x : ℕ) × Stands (expressions ns) (length ns) d x)
      → Placed (expressions ns) (length ns) d p → RestAt ns still (new over p) q → Placed (expressions ns) (length ns) e q
  new_placed {q = q} match part (there {q = x} at) h = looked_placed held q (match x at) h
  new_placed match part (missing at) h = same_place (missing (lacks_part held part at)) h

  two_placed : {over : ℕ → ℕ → Node} {d d' e : Expr} {p p' q : Option ℕ}
      → ((x y : ℕ) → Stands (expressions ns) (length ns) d x → Stands (expressions ns) (length ns) d' y
      → Match (λ p d. Stands (expressions ns) (length ns) d p) (over x y) e)
      → ((m : Node) → Match (λ p d. Stands (expressions ns) (length ns) d p) m e → (x : ℕ) × Stands (expressions ns) (length ns) d x)
      → ((m : Node) → Match (λ p d. Stands (expressions ns) (length ns) d p) m e → (y : ℕ) × Stands (expressions ns) (length ns) d' y)
      → Placed (expressions ns) (length ns) d p → Placed (expressions ns) (length ns) d' p' → RestAt ns still (new_of_two over p p') q
      → Placed (expressions ns) (length ns) e q
  two_placed {q = q} match left right (there {q = x} at) (there {q = y} at') h = looked_placed held q (match x y at at') h
  two_placed match left right (there at) (missing at') h = same_place (missing (lacks_part held right at')) h
  two_placed match left right (missing at) at' h = same_place (missing (lacks_part held left at)) h

  event_placed : (t : Bool) {r : ℕ} {q : Option ℕ} {e : Expr} → Placed (expressions ns) (length ns) e (Some r)
      → RestAt ns still (plan_event r t).rest q → Placed (expressions ns) (length ns) (kept (met t) e) q
  event_placed true at h = same_place at-still h
  event_placed false at h = same_place at h

  kept_placed : (s : Status) (r : Option Rest) {e : Expr} {q : Option ℕ} → (RestAt ns still r q → Placed (expressions ns) (length ns) e q)
      → RestAt ns still (rest_one s r) q → Placed (expressions ns) (length ns) (kept s e) q
  kept_placed Waiting r whole h = whole h
  kept_placed Success r whole h = same_place at-still h
  kept_placed Failure r whole h = same_place at-still h

  module _ {d e : Expr} {p q : Option ℕ} (at : Placed (expressions ns) (length ns) d p) where
    then_placed : {y : ℕ} → Stands (expressions ns) (length ns) e y → (s : Status)
        → RestAt ns still (rest_next s (new (λ x. Then x y) p) y) q → Placed (expressions ns) (length ns) (then_rest s d e) q
    then_placed at_y Waiting h = new_placed (λ x at. m_then at at_y) part_of_then at h
    then_placed at_y Success h = same_place (there at_y) h
    then_placed at_y Failure h = same_place at-still h

    module _ {p' : Option ℕ} (at' : Placed (expressions ns) (length ns) e p') where
      either_placed : (s t : Status) → RestAt ns still (rest_either s t p p') q → Placed (expressions ns) (length ns) (either_rest s t d e) q
      either_placed Waiting Waiting h = two_placed (λ x y u v. m_either u v) left_of_either right_of_either at at' h
      either_placed Waiting Success h = same_place at-still h
      either_placed Waiting Failure h = old_placed at h
      either_placed Success t h = same_place at-still h
      either_placed Failure Waiting h = old_placed at' h
      either_placed Failure Success h = same_place at-still h
      either_placed Failure Failure h = same_place at-still h

      try_placed : (s t : Status) → RestAt ns still (rest_try s t p p') q → Placed (expressions ns) (length ns) (try_rest s t d e) q
      try_placed Waiting Waiting h = two_placed (λ x y u v. m_try u v) left_of_try right_of_try at at' h
      try_placed Waiting Success h = same_place at-still h
      try_placed Waiting Failure h = old_placed at h
      try_placed Success t h = same_place at-still h
      try_placed Failure t h = same_place at-still h

  -- ---- the answer, by the construct

  module _ {a : ℕ} {q : Option ℕ} where
    pub event_right : {r b : ℕ} → Placed (expressions ns) (length ns) (event b) (Some r) → RestAt ns still (plan_event r (eqb b a)).rest q
        → Right (expressions ns) (length ns) a (event b) (answered (plan_event r (eqb b a)) q)
    unfolding status notices remainder
    event_right {r} {b} at h =
        record {
          notices_right = event_notices r (eqb b a);
          status_right = event_status r (eqb b a);
          remains_right = event_placed (eqb b a) at h;
        }

    module _ {d : Expr} {p : Part} (is : Right (expressions ns) (length ns) a d p) where
      pub not_right : RestAt ns still (plan_not p).rest q → Right (expressions ns) (length ns) a (not d) (answered (plan_not p) q)
      unfolding plan_not status notices remainder
      not_right h =
          record {
            notices_right = is.notices_right;
            status_right = ap opposite is.status_right;
            remains_right =
                kept_placed (status d a) (new Not p.remains) (new_placed (λ x at. m_not at) part_of_not is.remains_right) (rw is.status_right at h);
          }

      pub notify_right : (A : ℕ) → RestAt ns still (plan_notify p A).rest q
          → Right (expressions ns) (length ns) a (notify d A) (answered (plan_notify p A) q)
      unfolding plan_notify status notices remainder
      notify_right A h =
          record {
            notices_right = ap₂ (λ (s : Status) (o : ℕ). pushed s o A) is.status_right is.notices_right;
            status_right = is.status_right;
            remains_right =
                kept_placed (status d a) (new (λ x. Notify x A) p.remains) (new_placed (λ x at. m_notify at) part_of_notify is.remains_right) (rw is.status_right at h);
          }

      module _ {y : ℕ} {e : Expr} (at_y : Stands (expressions ns) (length ns) e y) (h : RestAt ns still (plan_next p y).rest q) where
        next_placed : Placed (expressions ns) (length ns) (then_rest (status d a) (remainder d a) e) q
        unfolding plan_next
        next_placed = then_placed is.remains_right at_y (status d a) (rw is.status_right at h)

        pub then_right : Right (expressions ns) (length ns) a (then d e) (answered (plan_next p y) q)
        unfolding plan_next status notices remainder
        then_right =
            record {
              notices_right = is.notices_right;
              status_right = ap (λ (s : Status). lower s Waiting) is.status_right;
              remains_right = next_placed;
            }

      pub repeat_right : {r : ℕ} → Stands (expressions ns) (length ns) (repeat d) r → RestAt ns still (plan_next p r).rest q
          → Right (expressions ns) (length ns) a (repeat d) (answered (plan_next p r) q)
      unfolding plan_next status notices remainder
      repeat_right at h =
          record {
            notices_right = is.notices_right;
            status_right = ap (λ (s : Status). lower s Waiting) is.status_right;
            remains_right = next_placed at h;
          }

      module _ {e : Expr} {p' : Part} (is' : Right (expressions ns) (length ns) a e p') where
        pub either_right : RestAt ns still (plan_either p p').rest q
            → Right (expressions ns) (length ns) a (either d e) (answered (plan_either p p') q)
        unfolding plan_either status notices remainder
        either_right h =
            record {
              notices_right = ap₂ join is.notices_right is'.notices_right;
              status_right = ap₂ higher is.status_right is'.status_right;
              remains_right =
                  either_placed is.remains_right is'.remains_right (status d a) (status e a)
                  (rw (is.status_right, is'.status_right) at h);
            }

        pub try_right : RestAt ns still (plan_try p p').rest q → Right (expressions ns) (length ns) a (try d e) (answered (plan_try p p') q)
        unfolding plan_try status notices remainder
        try_right h =
            record {
              notices_right = ap₂ join is.notices_right is'.notices_right;
              status_right = ap₂ tried is.status_right is'.status_right;
              remains_right =
                  try_placed is.remains_right is'.remains_right (status d a) (status e a)
                  (rw (is.status_right, is'.status_right) at h);
            }

    -- ---- record r, whose parts answer right

    plan_right : (part : ℕ → Part) {r : ℕ} (m : Node)
        → Parts (λ p. (p < length ns) × Right (expressions ns) (length ns) a (expressions ns p) (part p)) m
        → Stands (expressions ns) (length ns) (grow (expressions ns) m) r → RestAt ns still (plan_of part a r m).rest q
        → Right (expressions ns) (length ns) a (grow (expressions ns) m) (answered (plan_of part a r m) q)
    unfolding status notices remainder
    plan_right part Silent u at h = record { notices_right = refl; status_right = refl; remains_right = same_place at-still h }
    plan_right part (Event b) u at h = event_right (there at) h
    plan_right part (Not x) u at h = not_right u.1 h
    plan_right part (Either x y) u at h = either_right u.0.1 u.1.1 h
    plan_right part (Then x y) u at h = then_right u.0.1 (u.1.0, refl) h
    plan_right part (Repeat x) u at h = repeat_right u.1 at h
    plan_right part (Notify x A) u at h = notify_right u.1 A h
    plan_right part (Try x y) u at h = try_right u.0.1 u.1.1 h

    pub planned_right : (parts : List Entry) (r : ℕ) → r < length ns → Filled (expressions ns) (length ns) a parts r
        → RestAt ns still (plan_of (part_of parts) a r (record_of ns r)).rest q
        → Right (expressions ns) (length ns) a (expressions ns r) (answered (plan_of (part_of parts) a r (record_of ns r)) q)
    planned_right parts r h filled rest =
        let m = record_of ns r in
        let step = expr_step (length ns) (record_of ns) held.file.earlier r h in
        rw step
        (plan_right (part_of parts) m (parts_map (λ p l. (omega arith, filled p l)) m (held.file.earlier r h)) (h, step) rest)
