-- Moving a notice changes no notice sent and no status: `moved_like`. The pairs that the moves make are closed: at each event notices and
-- statuses are equal by the tables, and what remains of the two sides is equal, or the same move again.
use Prim.Native.Nat.{ℕ}
use mathlib.Core.Path.{◌≡◌, refl, sym, subst}
use mathlib.Core.Logic.{◌⊎◌, inl, inr}
use Rattle.par.specs.declared.Status.{Status}
use Rattle.par.specs.declared.Status.TheVariants.{Waiting, Success, Failure}
use Rattle.par.specs.Status.{higher, lower, tried}
use Rattle.par.specs.Expr.{Expr, join}
use Rattle.par.specs.Expr.{Expr.then, Expr.repeat, Expr.notify}
use Rattle.par.specs.Step.{status, notices, remainder, pushed, kept, either_rest, try_rest, then_rest}
use Rattle.par.specs.Like.{Like, Closes}
use Rattle.par.specs.Moving.{Moved}
use Rattle.par.specs.Moving.{Moved.over_notify, Moved.of_none, Moved.over_then, Moved.over_either, Moved.over_try, Moved.over_repeat}
use Rattle.par.proofs.Sets.{join_assoc, join_none, join_out, join_both}
use Rattle.par.proofs.LikeEquations.{kept_rest}
use Rattle.par.proofs.LikeClosed.{closed_like}

-- a move, or the two sides of a move over repeat while the body is under way
data Listed : Expr → Expr → Type 0 where
  moved : {x y : Expr} → Moved x y → Listed x y
  under_way : {u x : Expr} {A : ℕ} → Listed (notify (then u (repeat x)) A) (then u (repeat x))

-- ---- notices

pushed_twice : (c : Status) (o A B : ℕ) → pushed c (pushed c o A) B ≡ pushed c o (join A B)
pushed_twice Waiting o A B = refl
pushed_twice Success o A B = sym (join_assoc o A B)
pushed_twice Failure o A B = refl

pushed_none : (c : Status) (o : ℕ) → pushed c o 0 ≡ o
pushed_none Waiting o = refl
pushed_none Success o = join_none o
pushed_none Failure o = refl

-- then and repeat: their own status is never success
pushed_lower : (c : Status) (o A : ℕ) → pushed (lower c Waiting) o A ≡ o
pushed_lower Waiting o A = refl
pushed_lower Success o A = refl
pushed_lower Failure o A = refl

pushed_either : (c d : Status) (o p A : ℕ) → pushed (higher c d) (join o p) A ≡ join (pushed c o A) (pushed d p A)
pushed_either Waiting Waiting o p A = refl
pushed_either Waiting Success o p A = sym (join_assoc o p A)
pushed_either Waiting Failure o p A = refl
pushed_either Success Waiting o p A = join_out o p A
pushed_either Success Success o p A = join_both o p A
pushed_either Success Failure o p A = join_out o p A
pushed_either Failure Waiting o p A = refl
pushed_either Failure Success o p A = sym (join_assoc o p A)
pushed_either Failure Failure o p A = refl

pushed_try : (c d : Status) (o p A : ℕ) → pushed (tried c d) (join o p) A ≡ join (pushed c o A) p
pushed_try Waiting Waiting o p A = refl
pushed_try Waiting Success o p A = refl
pushed_try Waiting Failure o p A = refl
pushed_try Success d o p A = join_out o p A
pushed_try Failure d o p A = refl

same_notices : {x y : Expr} → Listed x y → (a : ℕ) → notices x a ≡ notices y a
unfolding status notices
same_notices (moved (over_notify {x} {A} {B})) a = pushed_twice (status x a) (notices x a) A B
same_notices (moved (of_none {x})) a = pushed_none (status x a) (notices x a)
same_notices (moved (over_then {x} {y} {A})) a = pushed_lower (status x a) (notices x a) A
same_notices (moved (over_either {x} {y} {A})) a = pushed_either (status x a) (status y a) (notices x a) (notices y a) A
same_notices (moved (over_try {x} {y} {A})) a = pushed_try (status x a) (status y a) (notices x a) (notices y a) A
same_notices (moved (over_repeat {x} {A})) a = pushed_lower (status x a) (notices x a) A
same_notices (under_way {u} {x} {A}) a = pushed_lower (status u a) (notices u a) A

-- ---- statuses, which a notice does not change

same_status : {x y : Expr} → Listed x y → (a : ℕ) → status x a ≡ status y a
unfolding status
same_status (moved over_notify) a = refl
same_status (moved of_none) a = refl
same_status (moved over_then) a = refl
same_status (moved over_either) a = refl
same_status (moved over_try) a = refl
same_status (moved over_repeat) a = refl
same_status under_way a = refl

-- ---- what remains, from the statuses of the parts

abbrev Remain : Expr → Expr → Type 0
Remain u v = (u ≡ v) ⊎ Listed u v

notify_rest : (c : Status) (u : Expr) (A B : ℕ) → Remain (kept c (notify (kept c (notify u A)) B)) (kept c (notify u (join A B)))
notify_rest Waiting u A B = inr (moved over_notify)
notify_rest Success u A B = inl refl
notify_rest Failure u A B = inl refl

none_rest : (c : Status) (u : Expr) → Remain (kept c (notify u 0)) (kept c u)
none_rest Waiting u = inr (moved of_none)
none_rest Success u = inl refl
none_rest Failure u = inl refl

then_rest_lem : (c : Status) (u y : Expr) (A : ℕ) → Remain (kept (lower c Waiting) (notify (then_rest c u y) A)) (then_rest c u (notify y A))
then_rest_lem Waiting u y A = inr (moved over_then)
then_rest_lem Success u y A = inl refl
then_rest_lem Failure u y A = inl refl

either_rest_lem : (c d : Status) (u v : Expr) (A : ℕ)
    → Remain (kept (higher c d) (notify (either_rest c d u v) A)) (either_rest c d (kept c (notify u A)) (kept d (notify v A)))
either_rest_lem Waiting Waiting u v A = inr (moved over_either)
either_rest_lem Waiting Success u v A = inl refl
either_rest_lem Waiting Failure u v A = inl refl
either_rest_lem Success d u v A = inl refl
either_rest_lem Failure Waiting u v A = inl refl
either_rest_lem Failure Success u v A = inl refl
either_rest_lem Failure Failure u v A = inl refl

try_rest_lem : (c d : Status) (u v : Expr) (A : ℕ)
    → Remain (kept (tried c d) (notify (try_rest c d u v) A)) (try_rest c d (kept c (notify u A)) v)
try_rest_lem Waiting Waiting u v A = inr (moved over_try)
try_rest_lem Waiting Success u v A = inl refl
try_rest_lem Waiting Failure u v A = inl refl
try_rest_lem Success d u v A = inl refl
try_rest_lem Failure d u v A = inl refl

repeat_rest : (c : Status) (u x : Expr) (A : ℕ)
    → Remain (kept (lower c Waiting) (notify (then_rest c u (repeat x)) A)) (then_rest c u (repeat x))
repeat_rest Waiting u x A = inr under_way
repeat_rest Success u x A = inr (moved over_repeat)
repeat_rest Failure u x A = inl refl

rest : {x y : Expr} → Listed x y → (a : ℕ) → Remain (remainder x a) (remainder y a)
unfolding status remainder
rest (moved (over_notify {x} {A} {B})) a = notify_rest (status x a) (remainder x a) A B
rest (moved (of_none {x})) a =
    subst (Remain (remainder (notify x 0) a)) (sym (kept_rest x a)) (none_rest (status x a) (remainder x a))
rest (moved (over_then {x} {y} {A})) a = then_rest_lem (status x a) (remainder x a) y A
rest (moved (over_either {x} {y} {A})) a = either_rest_lem (status x a) (status y a) (remainder x a) (remainder y a) A
rest (moved (over_try {x} {y} {A})) a = try_rest_lem (status x a) (status y a) (remainder x a) (remainder y a) A
rest (moved (over_repeat {x} {A})) a = repeat_rest (status x a) (remainder x a) x A
rest (under_way {u} {x} {A}) a = repeat_rest (status u a) (remainder u a) x A

-- ---- so they are closed

closes : {x y : Expr} → Listed x y → (a : ℕ) → Closes Listed x y a
closes l a = record { notices_equal = same_notices l a; statuses_equal = same_status l a; remainders = rest l a }

pub moved_like : {x y : Expr} → Moved x y → Like x y
moved_like {x} {y} m = closed_like Listed (record { closes = λ u v l a b. closes l a }) x y (moved m)
