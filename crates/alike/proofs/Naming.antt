-- Which events the first n records name, one record further: `names_more` where it is an event, `names_same` where it is none.
use Prim.Native.Nat.{ℕ, ◌+◌, ◌<◌}
use mathlib.Core.Path.{◌≡◌, sym, ◌∙◌}
use mathlib.Core.Logic.{◌≢◌}
use mathlib.Core.List.{List}
use mathlib.Core.Bool.{Bool, true, false}
use native.Mathlib.Omega.{arith}
use native.Mathlib.Decide.{ℕ_discrete}
use borrow.Author.Count.{below_more}
use lib.ListN.{length, get_or, set}
use lib.Seq.{get_or-set_same, get_or-set_other}
use Rattle.par.specs.declared.Node.{Node}
use Rattle.par.specs.declared.Node.TheVariants.{Event}
use Rattle.alike.specs.Tables.{record_of}
use Rattle.alike.specs.Settled.{NoneNames, Named, Named.named, Named.unnamed}

names_none : (ns : List Node) (a : ℕ) → NoneNames ns 0 a
names_none ns a r h = absurd (omega arith)

pub names_start : (ns : List Node) (a : ℕ) {b : Bool} → b ≡ false → Named ns 0 a b
names_start ns a clear = rw clear (unnamed (names_none ns a))

-- record n is not the event a
names_other : {ns : List Node} {n a : ℕ} {b : Bool} → record_of ns n ≢ Event a → Named ns n a b → Named ns (n + 1) a b
names_other other (named h e) = named (omega arith) e
names_other {ns} {n} {a} other (unnamed none) = unnamed (below_more (λ r. record_of ns r ≡ Event a → ⊥) n none other)

pub names_same : {ns : List Node} {n : ℕ} (is : List Bool) → ((a : ℕ) → record_of ns n ≢ Event a)
    → ((a : ℕ) → a < 256 → Named ns n a (get_or is a false)) → (a : ℕ) → a < 256 → Named ns (n + 1) a (get_or is a false)
names_same is other names a h = names_other (other a) (names a h)

names_by : {ns : List Node} {n : ℕ} (is : List Bool) {event : ℕ} → event < length is → record_of ns n ≡ Event event → (a : ℕ)
    → Dec (a ≡ event) → Named ns n a (get_or is a false) → Named ns (n + 1) a (get_or (set is event true) a false)
names_by {n = n} is {event} room at a (yes e) was =
    rw (e, get_or-set_same is event true false room) (named {r = n} (omega arith) at)
names_by is {event} room at a (no d) was =
    rw (get_or-set_other is event a true false d) (names_other (λ e. d (let f = sym e ∙ at in cc)) was)

pub names_more : {ns : List Node} {n : ℕ} (is : List Bool) (event : ℕ) → event < length is → record_of ns n ≡ Event event
    → ((a : ℕ) → a < 256 → Named ns n a (get_or is a false)) → (a : ℕ) → a < 256 → Named ns (n + 1) a (get_or (set is event true) a false)
names_more is event room at names a h = names_by is room at a (ℕ_discrete a event) (names a h)
