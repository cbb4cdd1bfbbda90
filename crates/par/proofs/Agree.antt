-- Equal notices and statuses on one feed, and how likeness on every feed is made of it and taken apart.
use Prim.Native.Nat.{ℕ, ◌<◌}
use mathlib.Core.Path.{◌≡◌, refl, sym, ap₂, ◌∙◌}
use mathlib.Core.List.{List, [], ◌∷◌}
use Rattle.par.specs.declared.Status.{Status}
use Rattle.par.specs.Expr.{Expr}
use Rattle.par.specs.Step.{status, notices, remainder}
use Rattle.par.specs.Feed.{answers, notices_on, statuses_on, Bytes}
use Rattle.par.specs.Like.{Like}

pub record Agree (feed : List ℕ) (x y : Expr) : Type 0 where
  pub on_notices : notices_on x feed ≡ notices_on y feed
  pub on_statuses : statuses_on x feed ≡ statuses_on y feed

pub at_end : {x y : Expr} → Agree [] x y
unfolding answers
at_end = record { on_notices = refl; on_statuses = refl }

-- equal notices and statuses at the first event, and agreement from there on
pub step : {x y : Expr} {a : ℕ} {feed : List ℕ} → notices x a ≡ notices y a → status x a ≡ status y a
    → Agree feed (remainder x a) (remainder y a) → Agree (a ∷ feed) x y
unfolding answers
step p q r = record {
  on_notices = ap₂ (λ (n : ℕ) (l : List ℕ). n ∷ l) p r.on_notices;
  on_statuses = ap₂ (λ (c : Status) (l : List Status). c ∷ l) q r.on_statuses;
}

pub agree_refl : {x : Expr} {feed : List ℕ} → Agree feed x x
agree_refl = record { on_notices = refl; on_statuses = refl }

-- equal expressions agree where one of them does
pub agree_eq : {x y u v : Expr} {feed : List ℕ} → x ≡ u → y ≡ v → Agree feed u v → Agree feed x y
agree_eq p q h = rw (p, q) h

-- of equal notices on a feed, those at the first event and those on the rest
pub notices_first : (x y : Expr) (a : ℕ) (feed : List ℕ) → notices_on x (a ∷ feed) ≡ notices_on y (a ∷ feed) → notices x a ≡ notices y a
unfolding answers
notices_first x y a feed e = cc

pub notices_rest : (x y : Expr) (a : ℕ) (feed : List ℕ) → notices_on x (a ∷ feed) ≡ notices_on y (a ∷ feed)
    → notices_on (remainder x a) feed ≡ notices_on (remainder y a) feed
unfolding answers
notices_rest x y a feed e = cc

first_status : {x y : Expr} {a : ℕ} {feed : List ℕ} → Agree (a ∷ feed) x y → status x a ≡ status y a
unfolding answers
first_status h = let e = h.on_statuses in cc

agree_rest : {x y : Expr} {a : ℕ} {feed : List ℕ} → Agree (a ∷ feed) x y → Agree feed (remainder x a) (remainder y a)
unfolding answers
agree_rest {x} {y} {a} {feed} h = let s = h.on_statuses in record { on_notices = notices_rest x y a feed h.on_notices; on_statuses = cc }

-- ---- likeness is agreement on every feed of bytes

pub like : {x y : Expr} → ((feed : List ℕ) → Bytes feed → Agree feed x y) → Like x y
like h = record { same_notices = λ feed bs. (h feed bs).on_notices; same_statuses = λ feed bs. (h feed bs).on_statuses }

pub agree : {x y : Expr} → Like x y → (feed : List ℕ) → Bytes feed → Agree feed x y
agree h feed bs = record { on_notices = h.same_notices feed bs; on_statuses = h.same_statuses feed bs }

-- agreement on every feed of numbers is more than is asked
pub always : {x y : Expr} → ((feed : List ℕ) → Agree feed x y) → Like x y
always h = like (λ feed bs. h feed)

pub like_notices : {x y : Expr} → Like x y → (a : ℕ) → a < 256 → notices x a ≡ notices y a
like_notices {x} {y} h a b = notices_first x y a [] (h.same_notices (a ∷ []) (b, tt))

pub like_status : {x y : Expr} → Like x y → (a : ℕ) → a < 256 → status x a ≡ status y a
like_status h a b = first_status (agree h (a ∷ []) (b, tt))

pub like_rest : {x y : Expr} → Like x y → (a : ℕ) → a < 256 → Like (remainder x a) (remainder y a)
like_rest h a b = like (λ feed bs. agree_rest (agree h (a ∷ feed) (b, bs)))

pub like_refl : {x : Expr} → Like x x
like_refl = always (λ feed. agree_refl)

pub like_sym : {x y : Expr} → Like x y → Like y x
like_sym h = record { same_notices = λ feed bs. sym (h.same_notices feed bs); same_statuses = λ feed bs. sym (h.same_statuses feed bs) }

pub like_trans : {x y z : Expr} → Like x y → Like y z → Like x z
like_trans h k = record {
  same_notices = λ feed bs. h.same_notices feed bs ∙ k.same_notices feed bs;
  same_statuses = λ feed bs. h.same_statuses feed bs ∙ k.same_statuses feed bs;
}
