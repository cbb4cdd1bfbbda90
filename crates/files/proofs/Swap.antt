-- The swap rule's file, read by computation.
use Rattle.std.proofs.Common.{◌-◌, length, sym, subst}
use mathlib.Core.Path.{◌≡◌, refl}
use mathlib.Core.List.{[], ◌∷◌}
use Rattle.par.specs.Expr.{size}
use Rattle.par.specs.Expr.{Expr.event, Expr.then, Expr.repeat, Expr.notify, Expr.try}
use Rattle.par.specs.Records.{expr_within, expr}
use Rattle.records.specs.Fields.{word_at}
use Rattle.records.specs.Kinds.{kind_of}
use Rattle.records.specs.Constructs.{node_of, node_at}
use Rattle.records.specs.Next.{next_at}
use Rattle.records.specs.Walk.{Found, found, turn, follow, walk, walked}
use Rattle.files.specs.Reading.{seen_in, expression_body, reading}
use Rattle.files.specs.Rule.{node_in, expr_of, rule}
use Rattle.files.specs.Swap.{swap_bytes}

pub swap_reading : reading swap_bytes ≡ found 0 58 (0 ∷ 5 ∷ 10 ∷ 15 ∷ 20 ∷ 28 ∷ 36 ∷ 44 ∷ 52 ∷ [])
unfolding reading walked walk follow turn next_at kind_of word_at expression_body seen_in node_at node_of
swap_reading = refl

pub swap_rule : rule swap_bytes ≡ repeat (then (event 0x6f) (try (notify (then (event 0x61) (event 0x63)) 3) (event 0x77)))
unfolding rule expr_of expr expr_within node_in node_at node_of word_at
swap_rule =
    let P : Found → Type 0 =
    λ f. expr (node_in swap_bytes f.places) (length f.places - 1)
    ≡ repeat (then (event 0x6f) (try (notify (then (event 0x61) (event 0x63)) 3) (event 0x77)))
    in
    subst P (sym swap_reading) refl

pub swap_size : size (rule swap_bytes) ≡ 9
unfolding size
swap_size = rw swap_rule
