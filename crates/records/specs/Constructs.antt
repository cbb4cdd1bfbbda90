-- What a record of an expression file says.
use Rattle.std.specs.Prelude.{ℕ, ◌+◌, ◌<◌, List, Bool, true, cond, ◌&&◌, get_or, eqb, ltb}
use Rattle.par.specs.declared.Node.{Node}
use Rattle.par.specs.declared.Node.TheVariants.{Silent, Event, Not, Either, Then, Repeat, Notify, Try}
use Rattle.records.specs.Fields.{word_at}

-- the construct of a kind with the event b, the parts x and y, and the set A
unfoldable pub node_of : ℕ → ℕ → ℕ → ℕ → ℕ → Node
node_of kind b x y A =
    cond (eqb kind 2) (Event b)
    (cond (eqb kind 3) (Not x)
    (cond (eqb kind 4) (Either x y)
    (cond (eqb kind 5) (Then x y)
    (cond (eqb kind 6) (Repeat x)
    (cond (eqb kind 7) (Notify x A)
    (cond (eqb kind 8) (Try x y) Silent))))))

-- the record at p
unfoldable pub node_at : List ℕ → ℕ → Node
node_at s p = node_of (word_at s p 2) (get_or s (p + 4) 0) (word_at s p 4) (word_at s p 6) (word_at s p 6)

-- the parts that a record names are among the first n records
abbrev pub earlier_in : ℕ → Node → Bool
earlier_in n Silent = true
earlier_in n (Event b) = true
earlier_in n (Not x) = ltb x n
earlier_in n (Either x y) = ltb x n && ltb y n
earlier_in n (Then x y) = ltb x n && ltb y n
earlier_in n (Repeat x) = ltb x n
earlier_in n (Notify x A) = ltb x n
earlier_in n (Try x y) = ltb x n && ltb y n

-- its event is a byte, and its notice set fits 16 bits
abbrev pub InRange : Node → Type 0
InRange Silent = Unit {0}
InRange (Event b) = b < 256
InRange (Not x) = Unit {0}
InRange (Either x y) = Unit {0}
InRange (Then x y) = Unit {0}
InRange (Repeat x) = Unit {0}
InRange (Notify x A) = A < 65536
InRange (Try x y) = Unit {0}
