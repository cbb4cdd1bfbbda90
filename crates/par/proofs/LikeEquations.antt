-- The eight equations of the paper's section 6. Each goes by induction on the feed: notices and statuses are equal by the tables, and
-- what remains of the two sides is equal, or the two sides again.
use Prim.Native.Nat.{ℕ}
use mathlib.Core.Path.{◌≡◌, refl, sym, ◌∙◌}
use mathlib.Core.List.{List, [], ◌∷◌}
use Rattle.par.specs.declared.Status.{Status}
use Rattle.par.specs.declared.Status.TheVariants.{Waiting, Success, Failure}
use Rattle.par.specs.Status.{opposite, higher, lower, tried}
use Rattle.par.specs.Expr.{Expr}
use Rattle.par.specs.Expr.{Expr.not, Expr.either, Expr.then, Expr.repeat, Expr.try}
use Rattle.par.specs.Step.{status, notices, remainder, kept, either_rest, try_rest, then_rest}
use Rattle.par.specs.Like.{Like}
use Rattle.par.proofs.Order.{success_waiting, failure_waiting}
use Rattle.par.proofs.Figure4.{finished}
use Rattle.par.proofs.Sets.{join_assoc, join_comm, join_self}
use Rattle.par.proofs.Agree.{Agree, step, at_end, agree_refl, agree_eq, always}

-- what remains of x is kept while x waits
pub kept_rest : (x : Expr) (a : ℕ) → remainder x a ≡ kept (status x a) (remainder x a)
kept_rest x a = go (status x a) refl
  where
    go : (c : Status) → status x a ≡ c → remainder x a ≡ kept c (remainder x a)
    go Waiting e = refl
    go Success e = finished x a (λ w. success_waiting (sym e ∙ w))
    go Failure e = finished x a (λ w. failure_waiting (sym e ∙ w))

-- ---- x | y = y | x

higher_comm : (c d : Status) → higher c d ≡ higher d c
higher_comm Waiting Waiting = refl
higher_comm Waiting Success = refl
higher_comm Waiting Failure = refl
higher_comm Success Waiting = refl
higher_comm Success Success = refl
higher_comm Success Failure = refl
higher_comm Failure Waiting = refl
higher_comm Failure Success = refl
higher_comm Failure Failure = refl

comm_rest : (c d : Status) {u v : Expr} {feed : List ℕ} → Agree feed (either u v) (either v u)
    → Agree feed (either_rest c d u v) (either_rest d c v u)
comm_rest Waiting Waiting h = h
comm_rest Waiting Success h = agree_refl
comm_rest Waiting Failure h = agree_refl
comm_rest Success Waiting h = agree_refl
comm_rest Success Success h = agree_refl
comm_rest Success Failure h = agree_refl
comm_rest Failure Waiting h = agree_refl
comm_rest Failure Success h = agree_refl
comm_rest Failure Failure h = agree_refl

comm_at : (feed : List ℕ) (x y : Expr) → Agree feed (either x y) (either y x)
unfolding status notices remainder
comm_at [] x y = at_end
comm_at (a ∷ feed) x y =
    step (join_comm (notices x a) (notices y a)) (higher_comm (status x a) (status y a))
    (comm_rest (status x a) (status y a) (comm_at feed (remainder x a) (remainder y a)))

pub either_comm : (x y : Expr) → Like (either x y) (either y x)
either_comm x y = always (λ feed. comm_at feed x y)

-- ---- x | (y | z) = (x | y) | z

higher_assoc : (c d e : Status) → higher c (higher d e) ≡ higher (higher c d) e
higher_assoc Waiting Waiting Waiting = refl
higher_assoc Waiting Waiting Success = refl
higher_assoc Waiting Waiting Failure = refl
higher_assoc Waiting Success e = refl
higher_assoc Waiting Failure e = refl
higher_assoc Success d e = refl
higher_assoc Failure d e = refl

assoc_rest : (c d e : Status) {u v w : Expr} {feed : List ℕ} → Agree feed (either u (either v w)) (either (either u v) w)
    → Agree feed (either_rest c (higher d e) u (either_rest d e v w)) (either_rest (higher c d) e (either_rest c d u v) w)
assoc_rest Waiting Waiting Waiting h = h
assoc_rest Waiting Waiting Success h = agree_refl
assoc_rest Waiting Waiting Failure h = agree_refl
assoc_rest Waiting Success e h = agree_refl
assoc_rest Waiting Failure Waiting h = agree_refl
assoc_rest Waiting Failure Success h = agree_refl
assoc_rest Waiting Failure Failure h = agree_refl
assoc_rest Success d e h = agree_refl
assoc_rest Failure Waiting Waiting h = agree_refl
assoc_rest Failure Waiting Success h = agree_refl
assoc_rest Failure Waiting Failure h = agree_refl
assoc_rest Failure Success e h = agree_refl
assoc_rest Failure Failure Waiting h = agree_refl
assoc_rest Failure Failure Success h = agree_refl
assoc_rest Failure Failure Failure h = agree_refl

assoc_at : (feed : List ℕ) (x y z : Expr) → Agree feed (either x (either y z)) (either (either x y) z)
unfolding status notices remainder
assoc_at [] x y z = at_end
assoc_at (a ∷ feed) x y z =
    step (join_assoc (notices x a) (notices y a) (notices z a)) (higher_assoc (status x a) (status y a) (status z a))
    (assoc_rest (status x a) (status y a) (status z a) (assoc_at feed (remainder x a) (remainder y a) (remainder z a)))

pub either_assoc : (x y z : Expr) → Like (either x (either y z)) (either (either x y) z)
either_assoc x y z = always (λ feed. assoc_at feed x y z)

-- ---- x | x = x

higher_self : (c : Status) → higher c c ≡ c
higher_self Waiting = refl
higher_self Success = refl
higher_self Failure = refl

self_rest : (c : Status) {u : Expr} {feed : List ℕ} → Agree feed (either u u) u → Agree feed (either_rest c c u u) (kept c u)
self_rest Waiting h = h
self_rest Success h = agree_refl
self_rest Failure h = agree_refl

self_at : (feed : List ℕ) (x : Expr) → Agree feed (either x x) x
unfolding status notices remainder
self_at [] x = at_end
self_at (a ∷ feed) x =
    step (join_self (notices x a)) (higher_self (status x a))
    (agree_eq refl (kept_rest x a) (self_rest (status x a) (self_at feed (remainder x a))))

pub either_self : (x : Expr) → Like (either x x) x
either_self x = always (λ feed. self_at feed x)

-- ---- not not x = x

opposite_twice : (c : Status) → opposite (opposite c) ≡ c
opposite_twice Waiting = refl
opposite_twice Success = refl
opposite_twice Failure = refl

twice_rest : (c : Status) {u : Expr} {feed : List ℕ} → Agree feed (not (not u)) u
    → Agree feed (kept (opposite c) (not (kept c (not u)))) (kept c u)
twice_rest Waiting h = h
twice_rest Success h = agree_refl
twice_rest Failure h = agree_refl

twice_at : (feed : List ℕ) (x : Expr) → Agree feed (not (not x)) x
unfolding status notices remainder
twice_at [] x = at_end
twice_at (a ∷ feed) x =
    step refl (opposite_twice (status x a))
    (agree_eq refl (kept_rest x a) (twice_rest (status x a) (twice_at feed (remainder x a))))

pub not_not : (x : Expr) → Like (not (not x)) x
not_not x = always (λ feed. twice_at feed x)

-- ---- x ; (y ; z) = (x ; y) ; z

lower_twice : (c : Status) → lower c Waiting ≡ lower (lower c Waiting) Waiting
lower_twice Waiting = refl
lower_twice Success = refl
lower_twice Failure = refl

seq_rest : (c : Status) {u : Expr} (y z : Expr) {feed : List ℕ} → Agree feed (then u (then y z)) (then (then u y) z)
    → Agree feed (then_rest c u (then y z)) (then_rest (lower c Waiting) (then_rest c u y) z)
seq_rest Waiting y z h = h
seq_rest Success y z h = agree_refl
seq_rest Failure y z h = agree_refl

seq_at : (feed : List ℕ) (x y z : Expr) → Agree feed (then x (then y z)) (then (then x y) z)
unfolding status notices remainder
seq_at [] x y z = at_end
seq_at (a ∷ feed) x y z =
    step refl (lower_twice (status x a)) (seq_rest (status x a) y z (seq_at feed (remainder x a) y z))

pub then_assoc : (x y z : Expr) → Like (then x (then y z)) (then (then x y) z)
then_assoc x y z = always (λ feed. seq_at feed x y z)

-- ---- not (x ; y) = not x | (x ; not y)

not_then_status : (c : Status) → opposite (lower c Waiting) ≡ higher (opposite c) (lower c Waiting)
not_then_status Waiting = refl
not_then_status Success = refl
not_then_status Failure = refl

not_then_rest : (c : Status) {u : Expr} (y : Expr) {feed : List ℕ} → Agree feed (not (then u y)) (either (not u) (then u (not y)))
    → Agree feed (kept (lower c Waiting) (not (then_rest c u y)))
    (either_rest (opposite c) (lower c Waiting) (kept c (not u)) (then_rest c u (not y)))
not_then_rest Waiting y h = h
not_then_rest Success y h = agree_refl
not_then_rest Failure y h = agree_refl

not_then_at : (feed : List ℕ) (x y : Expr) → Agree feed (not (then x y)) (either (not x) (then x (not y)))
unfolding status notices remainder
not_then_at [] x y = at_end
not_then_at (a ∷ feed) x y =
    step (sym (join_self (notices x a))) (not_then_status (status x a))
    (not_then_rest (status x a) y (not_then_at feed (remainder x a) y))

pub not_then : (x y : Expr) → Like (not (then x y)) (either (not x) (then x (not y)))
not_then x y = always (λ feed. not_then_at feed x y)

-- ---- x ; try y unless z = try x ; y unless x ; z

then_try_status : (c : Status) → lower c Waiting ≡ tried (lower c Waiting) (lower c Waiting)
then_try_status Waiting = refl
then_try_status Success = refl
then_try_status Failure = refl

then_try_rest : (c : Status) {u : Expr} (y z : Expr) {feed : List ℕ} → Agree feed (then u (try y z)) (try (then u y) (then u z))
    → Agree feed (then_rest c u (try y z)) (try_rest (lower c Waiting) (lower c Waiting) (then_rest c u y) (then_rest c u z))
then_try_rest Waiting y z h = h
then_try_rest Success y z h = agree_refl
then_try_rest Failure y z h = agree_refl

then_try_at : (feed : List ℕ) (x y z : Expr) → Agree feed (then x (try y z)) (try (then x y) (then x z))
unfolding status notices remainder
then_try_at [] x y z = at_end
then_try_at (a ∷ feed) x y z =
    step (sym (join_self (notices x a))) (then_try_status (status x a))
    (then_try_rest (status x a) y z (then_try_at feed (remainder x a) y z))

pub then_try : (x y z : Expr) → Like (then x (try y z)) (try (then x y) (then x z))
then_try x y z = always (λ feed. then_try_at feed x y z)

-- ---- repeat x = x ; repeat x

repeat_once_at : (feed : List ℕ) (x : Expr) → Agree feed (repeat x) (then x (repeat x))
unfolding status notices remainder
repeat_once_at [] x = at_end
repeat_once_at (a ∷ feed) x = step refl refl agree_refl

pub repeat_once : (x : Expr) → Like (repeat x) (then x (repeat x))
repeat_once x = always (λ feed. repeat_once_at feed x)
