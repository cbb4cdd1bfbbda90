-- Pairs that are closed are alike: the proof principle behind every accepted proposal (the paper's coinduction, up to equality).
use Prim.Native.Nat.{ℕ}
use mathlib.Core.Path.{◌≡◌, refl}
use mathlib.Core.List.{List, [], ◌∷◌}
use mathlib.Core.Logic.{◌⊎◌, inl, inr}
use Rattle.par.specs.Expr.{Expr}
use Rattle.par.specs.Step.{remainder}
use Rattle.par.specs.Feed.{Bytes}
use Rattle.par.specs.Like.{Like, Closed}
use Rattle.par.proofs.Agree.{Agree, step, at_end, agree_refl, agree_eq, like}

module _ (Listed : Expr → Expr → Type 0) (closed : Closed Listed) where
  -- the rest of a feed, from equal remainders or from a listed pair
  rest : {u v : Expr} {feed : List ℕ} → (Listed u v → Agree feed u v) → (u ≡ v) ⊎ Listed u v → Agree feed u v
  rest h (inl e) = agree_eq e refl agree_refl
  rest h (inr m) = h m

  listed_at : (feed : List ℕ) → Bytes feed → (x y : Expr) → Listed x y → Agree feed x y
  listed_at [] bs x y m = at_end
  listed_at (a ∷ feed) (b, bs) x y m =
      let c = closed.closes x y m a b in
      step c.notices_equal c.statuses_equal
      (rest (λ n. listed_at feed bs (remainder x a) (remainder y a) n) c.remainders)

  pub closed_like : (x y : Expr) → Listed x y → Like x y
  closed_like x y m = like (λ feed bs. listed_at feed bs x y m)
