-- What this crate promises beside its contracts, each theorem whole, with the file that proves it cited. Assumes nothing: there is no axiom in the crate.
use Prim.Native.Nat.{ℕ, ◌<◌, ◌≤◌}
use mathlib.Core.Path.{◌≡◌}
use mathlib.Core.Logic.{◌≢◌}
use mathlib.Core.List.{List}
use mathlib.Core.Bool.{true, false}
use lib.ListN.{length, get_or}
use Rattle.par.specs.declared.Node.{Node}
use Rattle.std.specs.declared.cmp.Ordering.TheVariants.{Equal}
use Rattle.par.specs.Nodes.{node_cmp}
use Rattle.par.specs.Records.{Parts}
use Rattle.par.proofs.Nodes
use Rattle.std.specs.Prelude.{Result, IfOk}
use Rattle.records.specs.declared.Contents.{Contents}
use Rattle.records.specs.declared.refusal.Refusal.{Refusal}
use Rattle.records.specs.declared.Next.{Next}
use Rattle.records.specs.Kinds.{most_of}
use Rattle.records.specs.Constructs.{node_at, earlier_in, InRange}
use Rattle.records.specs.Next.{next_at}
use Rattle.records.specs.Walk.{Found, turn, walked}
use Rattle.records.specs.Says.{Stands, Says}
use Rattle.records.specs.Refusals.{number_of, number}
use Rattle.records.proofs.Refusals
use Rattle.records.proofs.Constructs
use Rattle.records.proofs.Says
use Rattle.records.proofs.Walks

-- ---- A refusal is known by its number, which is never 0

pub refusal_one : (r r' : Refusal) → number_of r ≡ number_of r' → r ≡ r'
refusal_one r r' = Refusals.refusal_one

pub refusal_some : (r : Refusal) → number_of r ≢ 0
refusal_some = Refusals.refusal_some

-- So what a call comes to is known by its number, where it gives nothing else, and else by its number and the value that it gives if it is accepted.
pub outcome_one : (o o' : Result (Unit {0}) Refusal) → number o ≡ number o' → o ≡ o'
outcome_one = Refusals.outcome_one

pub result_one : {A : Type 0} (o o' : Result A Refusal) (x : A) → number o ≡ number o' → IfOk o (λ a. a ≡ x) → IfOk o' (λ a. a ≡ x) → o ≡ o'
result_one = Refusals.result_one

-- ---- At every place of every file one thing stands, by the tests in document 01's order, and `next_at` computes it

pub next_stands : (s : List ℕ) (contents : Contents) (pos count : ℕ) → Stands s contents pos count (next_at s contents pos count)
next_stands = Says.next_stands

pub stands_one : (s : List ℕ) (contents : Contents) (pos count : ℕ) (o o' : Result Next Refusal)
    → Stands s contents pos count o → Stands s contents pos count o' → o ≡ o'
stands_one s contents pos count o o' = Says.stands_one

-- ---- Every file says one thing, whatever number its bodies get, and `walked` computes it

pub walked_says : (s : List ℕ) (contents : Contents) (Body : ℕ → List ℕ → ℕ → Type 0) (body : ℕ → List ℕ → ℕ)
    → ((pos : ℕ) (ps : List ℕ) → Body pos ps (body pos ps))
    → Says s contents Body (walked (turn s contents body) (length s))
walked_says = Walks.walked_says

pub says_one : (s : List ℕ) (contents : Contents) (Body : ℕ → List ℕ → ℕ → Type 0) (body : ℕ → List ℕ → ℕ)
    → ((pos : ℕ) (ps : List ℕ) → Body pos ps (body pos ps))
    → ((pos : ℕ) (ps : List ℕ) (n m : ℕ) → Body pos ps n → Body pos ps m → n ≡ m)
    → (f g : Found) → Says s contents Body f → Says s contents Body g → f ≡ g
says_one s contents Body body sound one f g = Walks.says_one s contents Body body sound one

-- What is found lies inside the file, behind no more records than the file may hold.
pub says_within : (s : List ℕ) (contents : Contents) (Body : ℕ → List ℕ → ℕ → Type 0) (f : Found)
    → Says s contents Body f → (f.place ≤ length s) × (length f.places ≤ most_of contents)
says_within s contents Body f = Walks.says_within s contents Body

-- ---- A record names earlier records only, exactly where the test says so

pub earlier_parts : (n : ℕ) (m : Node)
    → (earlier_in n m ≡ true → Parts (λ p. p < n) m) × (earlier_in n m ≡ false → Parts (λ p. p < n) m → ⊥)
earlier_parts = Constructs.earlier_parts

-- ---- Two records that stand at one place in their order are one record

pub key_one : (m k : Node) → node_cmp m k ≡ Equal → m ≡ k
key_one = Nodes.node_equal

-- ---- In a file of bytes every event is a byte, and every notice set fits 16 bits

pub node_range : (s : List ℕ) → ((i : ℕ) → get_or s i 0 < 256) → (p : ℕ) → InRange (node_at s p)
node_range = Constructs.node_range
