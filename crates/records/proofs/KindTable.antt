-- What no row of the table of kinds has is reserved; a kind of a file's list has a length of at least 4.
use Prim.Native.Nat.{ℕ, ◌≤◌}
use mathlib.Core.Path.{◌≡◌, refl}
use mathlib.Core.Logic.{◌≢◌}
use native.Mathlib.Omega.{arith}
use borrow.Author.Tests.{ne_eqb}
use lib.Dec.{eqb, lit≤}
use Rattle.std.specs.Prelude.{Option, Some, None}
use Rattle.std.specs.Option.{unwrap_or}
use Rattle.records.specs.declared.Contents.{Contents}
use Rattle.records.specs.declared.Contents.TheVariants.{Expressions, Pairs}
use Rattle.records.specs.declared.Kind.{Kind}
use Rattle.records.specs.declared.Kind.TheVariants.{Construct, Pair, Reserved}
use Rattle.records.specs.Kinds.{kind_of, length_in}
use Rattle.records.proofs.Tests.{cond_all}

pub kind_reserved : (k : ℕ) → k ≢ 1 → k ≢ 2 → k ≢ 3 → k ≢ 4 → k ≢ 5 → k ≢ 6 → k ≢ 7 → k ≢ 8 → k ≢ 16 → Reserved ≡ kind_of k
unfolding kind_of
kind_reserved k h1 h2 h3 h4 h5 h6 h7 h8 h16 = simp ne_eqb

-- ---- lengths

abbrev Long : Contents → Kind → Type 0
Long contents kind = (n : ℕ) → length_in contents kind ≡ Some n → 4 ≤ n

construct_long : (contents : Contents) (n : ℕ) → 4 ≤ n → Long contents (Construct n)
construct_long Expressions n h m e = let f : n ≡ m = cc in omega arith
construct_long Pairs n h m e = cc

pair_long : (contents : Contents) (n : ℕ) → 4 ≤ n → Long contents (Pair n)
pair_long Expressions n h m e = cc
pair_long Pairs n h m e = let f : n ≡ m = cc in omega arith

reserved_long : (contents : Contents) → Long contents Reserved
reserved_long Expressions m e = cc
reserved_long Pairs m e = cc

pub listed_long : (contents : Contents) (k : ℕ) → Long contents (kind_of k)
unfolding kind_of
listed_long contents k =
    let P = Long contents in
    let construct = construct_long contents in
    cond_all P (eqb k 1) (Construct 4) _ (construct 4 (lit≤ tt))
    (cond_all P (eqb k 2) (Construct 5) _ (construct 5 (lit≤ tt))
    (cond_all P (eqb k 3) (Construct 6) _ (construct 6 (lit≤ tt))
    (cond_all P (eqb k 4) (Construct 8) _ (construct 8 (lit≤ tt))
    (cond_all P (eqb k 5) (Construct 8) _ (construct 8 (lit≤ tt))
    (cond_all P (eqb k 6) (Construct 6) _ (construct 6 (lit≤ tt))
    (cond_all P (eqb k 7) (Construct 8) _ (construct 8 (lit≤ tt))
    (cond_all P (eqb k 8) (Construct 8) _ (construct 8 (lit≤ tt))
    (cond_all P (eqb k 16) (Pair 8) Reserved (pair_long contents 8 (lit≤ tt)) (reserved_long contents)))))))))

long_by : (o : Option ℕ) → ((n : ℕ) → o ≡ Some n → 4 ≤ n) → unwrap_or o 0 ≢ 0 → 4 ≤ unwrap_or o 0
long_by None h listed = absurd (listed refl)
long_by (Some n) h listed = h n refl

pub length_long : (contents : Contents) (k : ℕ) → unwrap_or (length_in contents (kind_of k)) 0 ≢ 0 → 4 ≤ unwrap_or (length_in contents (kind_of k)) 0
length_long contents k = long_by (length_in contents (kind_of k)) (listed_long contents k)
