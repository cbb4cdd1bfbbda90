-- Parts that are alike may be exchanged, at any number of spots: `swapped_like`.
use Prim.Native.Nat.{ℕ}
use mathlib.Core.Path.{◌≡◌, ap, ap₂}
use mathlib.Core.List.{List, [], ◌∷◌}
use Rattle.par.specs.declared.Status.{Status}
use Rattle.par.specs.declared.Status.TheVariants.{Waiting, Success, Failure}
use Rattle.par.specs.Status.{opposite, higher, lower, tried}
use Rattle.par.specs.Expr.{Expr, join}
use Rattle.par.specs.Expr.{Expr.not, Expr.either, Expr.then, Expr.repeat, Expr.notify, Expr.try}
use Rattle.par.specs.Step.{status, notices, remainder, pushed, kept, either_rest, try_rest, then_rest}
use Rattle.par.specs.Feed.{Bytes}
use Rattle.par.specs.Like.{Like, Swapped}
use Rattle.par.specs.Like.{Swapped.here, Swapped.same, Swapped.in_not, Swapped.in_either, Swapped.in_then, Swapped.in_repeat}
use Rattle.par.specs.Like.{Swapped.in_notify, Swapped.in_try}
use Rattle.par.proofs.Agree.{Agree, step, at_end, agree_refl, like, agree, like_notices, like_status, like_rest, like_refl}

-- ---- what remains, from equal statuses and remainders that agree

kept_agree : {u v : Expr} {feed : List ℕ} (d : Status) {c : Status} → c ≡ d → Agree feed u v → Agree feed (kept c u) (kept d v)
kept_agree Waiting e h = rw e h
kept_agree Success e h = rw e agree_refl
kept_agree Failure e h = rw e agree_refl

then_agree : {u v s t : Expr} {feed : List ℕ} (d : Status) {c : Status} → c ≡ d
    → Agree feed (then u s) (then v t) → Agree feed s t → Agree feed (then_rest c u s) (then_rest d v t)
then_agree Waiting e h k = rw e h
then_agree Success e h k = rw e k
then_agree Failure e h k = rw e agree_refl

either_agree : {u v s t : Expr} {feed : List ℕ} (d d' : Status) {c c' : Status} → c ≡ d → c' ≡ d'
    → Agree feed (either u s) (either v t) → Agree feed u v → Agree feed s t
    → Agree feed (either_rest c c' u s) (either_rest d d' v t)
either_agree Waiting Waiting e e' h k l = rw (e, e') h
either_agree Waiting Success e e' h k l = rw (e, e') agree_refl
either_agree Waiting Failure e e' h k l = rw (e, e') k
either_agree Success d e e' h k l = rw e agree_refl
either_agree Failure Waiting e e' h k l = rw (e, e') l
either_agree Failure Success e e' h k l = rw (e, e') agree_refl
either_agree Failure Failure e e' h k l = rw (e, e') agree_refl

try_agree : {u v s t : Expr} {feed : List ℕ} (d d' : Status) {c c' : Status} → c ≡ d → c' ≡ d'
    → Agree feed (try u s) (try v t) → Agree feed u v → Agree feed (try_rest c c' u s) (try_rest d d' v t)
try_agree Waiting Waiting e e' h k = rw (e, e') h
try_agree Waiting Success e e' h k = rw (e, e') agree_refl
try_agree Waiting Failure e e' h k = rw (e, e') k
try_agree Success d e e' h k = rw e agree_refl
try_agree Failure d e e' h k = rw e agree_refl

-- ---- each construct

not_at : (feed : List ℕ) → Bytes feed → {x y : Expr} → Like x y → Agree feed (not x) (not y)
unfolding status notices remainder
not_at [] bs h = at_end
not_at (a ∷ feed) (b, bs) {x} {y} h =
    step (like_notices h a b) (ap opposite (like_status h a b))
    (kept_agree (status y a) (like_status h a b) (not_at feed bs (like_rest h a b)))

notify_at : (feed : List ℕ) → Bytes feed → (A : ℕ) {x y : Expr} → Like x y → Agree feed (notify x A) (notify y A)
unfolding status notices remainder
notify_at [] bs A h = at_end
notify_at (a ∷ feed) (b, bs) A {x} {y} h =
    step (ap₂ (λ c o. pushed c o A) (like_status h a b) (like_notices h a b)) (like_status h a b)
    (kept_agree (status y a) (like_status h a b) (notify_at feed bs A (like_rest h a b)))

either_at : (feed : List ℕ) → Bytes feed → {x y s t : Expr} → Like x y → Like s t → Agree feed (either x s) (either y t)
unfolding status notices remainder
either_at [] bs h k = at_end
either_at (a ∷ feed) (b, bs) {x} {y} {s} {t} h k =
    step (ap₂ join (like_notices h a b) (like_notices k a b)) (ap₂ higher (like_status h a b) (like_status k a b))
    (either_agree (status y a) (status t a) (like_status h a b) (like_status k a b)
    (either_at feed bs (like_rest h a b) (like_rest k a b)) (agree (like_rest h a b) feed bs) (agree (like_rest k a b) feed bs))

try_at : (feed : List ℕ) → Bytes feed → {x y s t : Expr} → Like x y → Like s t → Agree feed (try x s) (try y t)
unfolding status notices remainder
try_at [] bs h k = at_end
try_at (a ∷ feed) (b, bs) {x} {y} {s} {t} h k =
    step (ap₂ join (like_notices h a b) (like_notices k a b)) (ap₂ tried (like_status h a b) (like_status k a b))
    (try_agree (status y a) (status t a) (like_status h a b) (like_status k a b)
    (try_at feed bs (like_rest h a b) (like_rest k a b)) (agree (like_rest h a b) feed bs))

then_at : (feed : List ℕ) → Bytes feed → {x y s t : Expr} → Like x y → Like s t → Agree feed (then x s) (then y t)
unfolding status notices remainder
then_at [] bs h k = at_end
then_at (a ∷ feed) (b, bs) {x} {y} {s} {t} h k =
    step (like_notices h a b) (ap (λ c. lower c Waiting) (like_status h a b))
    (then_agree (status y a) (like_status h a b) (then_at feed bs (like_rest h a b) k) (agree k feed bs))

-- a repeat, and what remains of one, at once
repeat_at : (feed : List ℕ) → Bytes feed → {x y u v : Expr} → Like x y → Like u v
    → Agree feed (repeat x) (repeat y) × Agree feed (then u (repeat x)) (then v (repeat y))
unfolding status notices remainder
repeat_at [] bs h k = (at_end, at_end)
repeat_at (a ∷ feed) (b, bs) {x} {y} {u} {v} h k =
    let r = repeat_at feed bs h (like_rest h a b) in
    let s = repeat_at feed bs h (like_rest k a b) in (
      step (like_notices h a b) (ap (λ c. lower c Waiting) (like_status h a b))
          (then_agree (status y a) (like_status h a b) r.1 r.0),
      step (like_notices k a b) (ap (λ c. lower c Waiting) (like_status k a b))
          (then_agree (status v a) (like_status k a b) s.1 s.0),
    )

pub not_like : {x y : Expr} → Like x y → Like (not x) (not y)
not_like h = like (λ feed bs. not_at feed bs h)

pub notify_like : {x y : Expr} (A : ℕ) → Like x y → Like (notify x A) (notify y A)
notify_like A h = like (λ feed bs. notify_at feed bs A h)

pub either_like : {x y s t : Expr} → Like x y → Like s t → Like (either x s) (either y t)
either_like h k = like (λ feed bs. either_at feed bs h k)

pub try_like : {x y s t : Expr} → Like x y → Like s t → Like (try x s) (try y t)
try_like h k = like (λ feed bs. try_at feed bs h k)

pub then_like : {x y s t : Expr} → Like x y → Like s t → Like (then x s) (then y t)
then_like h k = like (λ feed bs. then_at feed bs h k)

pub repeat_like : {x y : Expr} → Like x y → Like (repeat x) (repeat y)
repeat_like h = like (λ feed bs. (repeat_at feed bs h h).0)

-- ---- anywhere in a larger expression

pub swapped_like : {x y : Expr} → Like x y → {u v : Expr} → Swapped x y u v → Like u v
swapped_like h here = h
swapped_like h same = like_refl
swapped_like h (in_not s) = not_like (swapped_like h s)
swapped_like h (in_either s t) = either_like (swapped_like h s) (swapped_like h t)
swapped_like h (in_then s t) = then_like (swapped_like h s) (swapped_like h t)
swapped_like h (in_repeat s) = repeat_like (swapped_like h s)
swapped_like h (in_notify {A = A} s) = notify_like A (swapped_like h s)
swapped_like h (in_try s t) = try_like (swapped_like h s) (swapped_like h t)
