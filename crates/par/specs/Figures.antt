-- Figures 3, 4 and 5 of the paper, a constructor for each rule under the paper's name, with the rules for silent that its section 4
-- displays beside them. The premises of figure 4 on an unfinished part are read with "and is waiting". A premise "does not complete
-- with c" is read: completes with another status. Last, how many rules a derivation of figure 3 uses.
use Rattle.std.specs.Prelude.{ℕ, ◌+◌, ◌≢◌}
use Rattle.par.specs.declared.Status.{Status}
use Rattle.par.specs.declared.Status.TheVariants.{Waiting, Success, Failure}
use Rattle.par.specs.Status.{opposite, higher, lower}
use Rattle.par.specs.Expr.{Expr, join}
use Rattle.par.specs.Expr.{Expr.silent, Expr.event, Expr.not, Expr.either, Expr.then, Expr.repeat, Expr.notify, Expr.try}

-- figure 3: x completes with c on the event a
pub data Completes : Expr → ℕ → Status → Type 0 where
  α_silent : {a : ℕ} → Completes silent a Waiting
  α_ev₁ : {a : ℕ} → Completes (event a) a Success
  α_ev₂ : {a b : ℕ} → b ≢ a → Completes (event a) b Waiting
  α_seq : {x y : Expr} {a : ℕ} {c : Status} → Completes x a c → Completes (then x y) a (lower c Waiting)
  α_sel : {x y : Expr} {a : ℕ} {c d : Status} → Completes x a c → Completes y a d → Completes (either x y) a (higher c d)
  α_rep : {x : Expr} {a : ℕ} {c : Status} → Completes x a c → Completes (repeat x) a (lower c Waiting)
  α_push : {x : Expr} {A a : ℕ} {c : Status} → Completes x a c → Completes (notify x A) a c
  α_neg : {x : Expr} {a : ℕ} {c : Status} → Completes x a c → Completes (not x) a (opposite c)
  α_try₁ : {x y : Expr} {a : ℕ} {c : Status} → Completes x a c → c ≢ Waiting → Completes (try x y) a c
  α_try₂ : {x y : Expr} {a : ℕ} {d : Status} → Completes x a Waiting → Completes y a d
      → Completes (try x y) a (lower (opposite d) Waiting)

-- figure 4: x becomes x' on the event a
pub data Becomes : Expr → ℕ → Expr → Type 0 where
  ∂_silent : {a : ℕ} → Becomes silent a silent
  Silent : {x : Expr} {a : ℕ} {c : Status} → Completes x a c → c ≢ Waiting → Becomes x a silent
  Ev : {a b : ℕ} → b ≢ a → Becomes (event a) b (event a)
  Neg : {x x' : Expr} {a : ℕ} → Completes x a Waiting → Becomes x a x' → Becomes (not x) a (not x')
  Push : {x x' : Expr} {A a : ℕ} → Completes x a Waiting → Becomes x a x' → Becomes (notify x A) a (notify x' A)
  Seq₁ : {x x' y : Expr} {a : ℕ} → Completes x a Waiting → Becomes x a x' → Becomes (then x y) a (then x' y)
  Seq₂ : {x y : Expr} {a : ℕ} → Completes x a Success → Becomes (then x y) a y
  Sel₁ : {x x' y y' : Expr} {a : ℕ} → Completes x a Waiting → Becomes x a x' → Completes y a Waiting → Becomes y a y'
      → Becomes (either x y) a (either x' y')
  Sel₂ : {x y y' : Expr} {a : ℕ} → Completes x a Failure → Completes y a Waiting → Becomes y a y' → Becomes (either x y) a y'
  Sel₃ : {x x' y : Expr} {a : ℕ} → Completes x a Waiting → Becomes x a x' → Completes y a Failure → Becomes (either x y) a x'
  Rep₁ : {x x' : Expr} {a : ℕ} → Completes x a Waiting → Becomes x a x' → Becomes (repeat x) a (then x' (repeat x))
  Rep₂ : {x : Expr} {a : ℕ} → Completes x a Success → Becomes (repeat x) a (repeat x)
  Try₁ : {x x' y y' : Expr} {a : ℕ} → Completes x a Waiting → Becomes x a x' → Completes y a Waiting → Becomes y a y'
      → Becomes (try x y) a (try x' y')
  Try₂ : {x x' y : Expr} {a : ℕ} → Completes x a Waiting → Becomes x a x' → Completes y a Failure → Becomes (try x y) a x'

-- figure 5: x sends o on the event a
pub data Sends : Expr → ℕ → ℕ → Type 0 where
  o_silent : {a : ℕ} → Sends silent a 0
  o_ev : {a b : ℕ} → Sends (event a) b 0
  o_neg : {x : Expr} {a o : ℕ} → Sends x a o → Sends (not x) a o
  o_seq : {x y : Expr} {a o : ℕ} → Sends x a o → Sends (then x y) a o
  o_sel : {x y : Expr} {a o u : ℕ} → Sends x a o → Sends y a u → Sends (either x y) a (join o u)
  o_rep : {x : Expr} {a o : ℕ} → Sends x a o → Sends (repeat x) a o
  o_try : {x y : Expr} {a o u : ℕ} → Sends x a o → Sends y a u → Sends (try x y) a (join o u)
  o_push₁ : {x : Expr} {A a o : ℕ} → Sends x a o → Completes x a Success → Sends (notify x A) a (join o A)
  o_push₂ : {x : Expr} {A a o : ℕ} {c : Status} → Sends x a o → Completes x a c → c ≢ Success → Sends (notify x A) a o

-- the rules that a derivation of figure 3 uses, silent's too, each as often as it stands there
unfoldable pub rules_used : {x : Expr} {a : ℕ} {c : Status} → Completes x a c → ℕ
rules_used α_silent = 1
rules_used α_ev₁ = 1
rules_used (α_ev₂ n) = 1
rules_used (α_seq p) = rules_used p + 1
rules_used (α_sel p q) = rules_used p + rules_used q + 1
rules_used (α_rep p) = rules_used p + 1
rules_used (α_push p) = rules_used p + 1
rules_used (α_neg p) = rules_used p + 1
rules_used (α_try₁ p n) = rules_used p + 1
rules_used (α_try₂ p q) = rules_used p + rules_used q + 1
