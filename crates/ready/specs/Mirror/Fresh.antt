-- Mirror. A rule before its first event, node by node: F are the nodes, S the notice sets that they gain.
use Rattle.std.specs.Prelude.{ℕ, zero, suc, ◌-◌, ◌≡◌, cond, get_or, set, eqb, ltb}
use mathlib.Core.List.{List, replicate}
use Rattle.play.specs.Mirror.Masks.{one, with}
use Rattle.play.specs.Mirror.Nodes.{kind_at, first_at}
use Rattle.ready.specs.declared.fresh.Start.{Start}

-- ---- one node

-- the nodes in play of node r afresh, from those of its first part and those of the node before it, which is the last part of a node that has parts
unfoldable pub fresh_from : ℕ → ℕ → ℕ → ℕ → ℕ
fresh_from kind r first last =
    cond (ltb kind 3) (one r)
    (cond (eqb kind 4) (with (with first last) (one r))
    (cond (eqb kind 8) (with (with first last) (one r))
    (with first (one r))))

-- what it gains: a notify its set, a then and a repeat what their last part has afresh; of any other node it is not read
unfoldable pub gain_from : ℕ → ℕ → ℕ → ℕ
gain_from kind set last = cond (eqb kind 7) set last

-- node r is marked if it is of this kind
unfoldable pub marked : ℕ → ℕ → ℕ → ℕ → ℕ
marked kind wanted r A = cond (eqb kind wanted) (with A (one r)) A

-- a node of kind k is made ready as one of kind m
pub record AlikeAfresh (k m : ℕ) : Type 0 where
  pub fresh : (r first last : ℕ) → fresh_from m r first last ≡ fresh_from k r first last
  pub gain : (set last : ℕ) → gain_from m set last ≡ gain_from k set last
  pub leaf : (r A : ℕ) → marked m 2 r A ≡ marked k 2 r A
  pub repeat : (r A : ℕ) → marked m 6 r A ≡ marked k 6 r A

-- ---- all nodes below a number

pub record Prepared : Type 0 where
  pub fresh : List ℕ
  pub gain : List ℕ
  pub leaves : ℕ
  pub repeats : ℕ

abbrev pub prepared : List ℕ → List ℕ → ℕ → ℕ → Prepared
prepared H G L R = record { fresh = H; gain = G; leaves = L; repeats = R }

-- of an earlier node
unfoldable pub earlier : List ℕ → ℕ → ℕ → ℕ
earlier H x r = cond (ltb x r) (get_or H x 0) 0

-- node r, from those before it
abbrev pub next_of : List ℕ → ℕ → Prepared → Prepared
next_of F r p =
    prepared
    (set p.fresh r (fresh_from (kind_at F r) r (earlier p.fresh (first_at F r) r) (earlier p.fresh (r - 1) r)))
    (set p.gain r (gain_from (kind_at F r) (get_or p.gain r 0) (earlier p.fresh (r - 1) r)))
    (marked (kind_at F r) 2 r p.leaves) (marked (kind_at F r) 6 r p.repeats)

module _ (F S : List ℕ) where
  unfoldable pub prepares : ℕ → Prepared
  prepares zero = prepared (replicate 64 0) S 0 0
  prepares (suc r) = next_of F r (prepares r)

-- the nodes up to root
abbrev pub start_of : Prepared → ℕ → Start
start_of p root = record { fresh = get_or p.fresh root 0; leaves = p.leaves; repeats = p.repeats }

-- what the code gives, and what it leaves of S
abbrev pub Prepares : List ℕ → List ℕ → ℕ → Start → List ℕ → Type 0
Prepares F S root p G = (p ≡ start_of (prepares F S (suc root)) root) × (G ≡ (prepares F S (suc root)).gain)
