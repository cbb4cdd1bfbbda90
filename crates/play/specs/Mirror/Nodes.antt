-- Mirror. A node is one number: its kind as in the file, and 256 times its event or first part. A node stands right behind its last part.
use Rattle.std.specs.Prelude.{ℕ, ◌+◌, ◌*◌, ◌/◌, ◌%◌, cond, List, get_or, ltb}
use Rattle.play.specs.declared.kinds.Kind.{Kind}
use Rattle.play.specs.declared.kinds.Kind.TheVariants.{Silent, Event, Not, Either, Then, Repeat, Notify, Try}

-- a kind as the file's number
abbrev pub kind_number : Kind → ℕ
kind_number Silent = 1
kind_number Event = 2
kind_number Not = 3
kind_number Either = 4
kind_number Then = 5
kind_number Repeat = 6
kind_number Notify = 7
kind_number Try = 8

-- a number that is no kind's is taken as silent's
unfoldable pub known_kind : ℕ → ℕ
known_kind k = cond (ltb k 1) 1 (cond (ltb 8 k) 1 k)

abbrev pub packed : ℕ → ℕ → ℕ
packed kind x = kind + 256 * x

-- of node r
unfoldable pub kind_at : List ℕ → ℕ → ℕ
kind_at F r = get_or F r 0 % 256

-- its event or its first part
unfoldable pub first_at : List ℕ → ℕ → ℕ
first_at F r = get_or F r 0 / 256

-- what node r gains: a notify its notice set, a then and a repeat the nodes that come into play
unfoldable pub gain_at : List ℕ → ℕ → ℕ
gain_at G r = get_or G r 0
