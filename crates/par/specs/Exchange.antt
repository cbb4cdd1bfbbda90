-- What it means that two expressions can be exchanged, judged by the notices alone: in every larger rule, or in two of them.
use Rattle.std.specs.Prelude.{ℕ, ◌≡◌, List, ◌≢◌}
use Rattle.par.specs.Expr.{Expr}
use Rattle.par.specs.Expr.{Expr.not, Expr.then}
use Rattle.par.specs.Feed.{notices_on, Bytes}
use Rattle.par.specs.Like.{Swapped}
use Rattle.par.specs.Throughout.{Writable}

-- equal notices inside every larger rule that can be written with k recipients, on every feed of bytes
pub record Exchangeable (k : ℕ) (x y : Expr) : Type 0 where
  pub inside : {u v : Expr} → Swapped x y u v → Writable k u → Writable k v → (feed : List ℕ) → Bytes feed → notices_on u feed ≡ notices_on v feed

-- the paper's two larger rules hold x before some w: as it is, or reversed
pub data Setting : Type 0 where
  plain : Setting
  reversed : Setting

abbrev pub in_setting : Setting → Expr → Expr → Expr
in_setting plain w x = then x w
in_setting reversed w x = then (not x) w

-- equal notices in both, on every feed of bytes
pub record SameInBoth (w x y : Expr) : Type 0 where
  pub same : (s : Setting) (feed : List ℕ) → Bytes feed → notices_on (in_setting s w x) feed ≡ notices_on (in_setting s w y) feed

-- different notices in one of them, on some feed of bytes
pub record ToldApart (w x y : Expr) : Type 0 where
  pub setting : Setting
  pub feed : List ℕ
  pub bytes : Bytes feed
  pub differ : notices_on (in_setting setting w x) feed ≢ notices_on (in_setting setting w y) feed
