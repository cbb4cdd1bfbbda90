-- A kind is known by its number.
use mathlib.Core.Path.{◌≡◌, refl, sym, ap, ◌∙◌}
use mathlib.Core.List.{List, [], ◌∷◌}
use lib.ListN.{get_or}
use Rattle.play.specs.declared.kinds.Kind.{Kind}
use Rattle.play.specs.declared.kinds.Kind.TheVariants.{Silent, Event, Not, Either, Then, Repeat, Notify, Try}
use Rattle.play.specs.Mirror.Nodes.{kind_number}

-- the kind of a number
abbrev kinds : List Kind
kinds = Silent ∷ Silent ∷ Event ∷ Not ∷ Either ∷ Then ∷ Repeat ∷ Notify ∷ Try ∷ []

listed : (k : Kind) → get_or kinds (kind_number k) Silent ≡ k
listed Silent = refl
listed Event = refl
listed Not = refl
listed Either = refl
listed Then = refl
listed Repeat = refl
listed Notify = refl
listed Try = refl

pub kind_one : {k k' : Kind} → kind_number k ≡ kind_number k' → k ≡ k'
kind_one {k} {k'} e = sym (listed k) ∙ ap (λ n. get_or kinds n Silent) e ∙ listed k'
