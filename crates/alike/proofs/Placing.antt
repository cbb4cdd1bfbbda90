-- Where an expression stands in a file. `looked_placed`: the look-up is complete, that is, "not found" means that no record is that expression.
-- `lacks_part`: nor is one, where a part of the expression is not in the file. `placed_one`: an expression has one number only.
use Prim.Native.Nat.{ℕ, ◌<◌}
use mathlib.Core.Path.{◌≡◌, refl, sym, ap, ◌∙◌, subst}
use mathlib.Core.List.{List}
use native.Mathlib.Omega.{arith}
use lib.ListN.{length}
use Rattle.std.specs.Prelude.{Option, Some, None}
use Rattle.par.specs.declared.Node.{Node}
use Rattle.par.specs.Expr.{Expr}
use Rattle.par.specs.Records.{grow, Parts}
use Rattle.par.proofs.Records.{Match, same_match, grown, parts_map, expr_step, one_record}
use Rattle.alike.specs.Closing.{Stands, Absent}
use Rattle.alike.specs.Tables.{record_of, expressions, Held}
use Rattle.alike.specs.Lookup.{Looked}
use Rattle.alike.specs.List.{Placed, Placed.there, Placed.missing}
use Rattle.alike.proofs.Growing.{match_grow}

module _ {ns : List Node} (held : Held ns) where
  pub placed_one : {e : Expr} {p q : Option ℕ} → Placed (expressions ns) (length ns) e p → Placed (expressions ns) (length ns) e q → p ≡ q
  placed_one (there {q = p} h) (there {q} k) = ap Some (one_record (length ns) (record_of ns) held.file p q h.0 k.0 (h.1 ∙ sym k.1))
  placed_one (there {q = p} h) (missing k) = absurd (k p h.0 h.1)
  placed_one (missing h) (there {q} k) = absurd (h q k.0 k.1)
  placed_one (missing h) (missing k) = refl

  parts_inside : (r : ℕ) → r < length ns → Parts (λ p. p < length ns) (record_of ns r)
  parts_inside r h = parts_map (λ p l. omega arith) (record_of ns r) (held.file.earlier r h)

  row_step : (r : ℕ) → r < length ns → expressions ns r ≡ grow (expressions ns) (record_of ns r)
  row_step = expr_step (length ns) (record_of ns) held.file.earlier

  row_matches : (r : ℕ) → r < length ns → {e : Expr} → expressions ns r ≡ e
      → Match (λ p d. Stands (expressions ns) (length ns) d p) (record_of ns r) e
  row_matches r h i =
      subst (λ (d : Expr). Match (λ p d. Stands (expressions ns) (length ns) d p) (record_of ns r) d) (sym (row_step r h) ∙ i)
      (grown (expressions ns) (record_of ns r) (parts_inside r h))

  pub looked_placed : {m : Node} {e : Expr} (q : Option ℕ) → Match (λ p d. Stands (expressions ns) (length ns) d p) m e → Looked ns m q
      → Placed (expressions ns) (length ns) e q
  looked_placed (Some q) match h =
      there (
        h.0,
        row_step q h.0 ∙ ap (grow (expressions ns)) h.1
            ∙ match_grow (expressions ns) (λ p d l s. s.1) match (subst (Parts (λ p. p < length ns)) h.1 (parts_inside q h.0)),
      )
  looked_placed None match h =
      missing
      (λ r l i.
      h r l (same_match (λ p q d u v. one_record (length ns) (record_of ns) held.file p q u.0 v.0 (u.1 ∙ sym v.1)) (row_matches r l i) match))

  -- d is a part of every record that is e
  pub lacks_part : {d e : Expr}
      → ((m : Node) → Match (λ p d. Stands (expressions ns) (length ns) d p) m e → (x : ℕ) × Stands (expressions ns) (length ns) d x)
      → Absent (expressions ns) (length ns) d → Absent (expressions ns) (length ns) e
  lacks_part part none r l i = let p = part (record_of ns r) (row_matches r l i) in none p.0 p.1.0 p.1.1
