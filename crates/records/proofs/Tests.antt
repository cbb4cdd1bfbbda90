-- What holds of both outcomes of a test holds of what it picks.
use mathlib.Core.Path.{◌≡◌, refl}
use mathlib.Core.Bool.{Bool, true, false, cond}

pub cond_case : {A : Type 0} (P : A → Type 0) (b : Bool) (x y : A) → (b ≡ true → P x) → (b ≡ false → P y) → P (cond b x y)
cond_case P true x y h k = h refl
cond_case P false x y h k = k refl

pub cond_all : {A : Type 0} (P : A → Type 0) (b : Bool) (x y : A) → P x → P y → P (cond b x y)
cond_all P b x y h k = cond_case P b x y (λ e. h) (λ e. k)
