-- The loop of `put_lines`: what has been written, with the lines of the records that are left behind it, is the whole.
use Prim.Native.Nat.{ℕ, ◌+◌, ◌*◌, ◌-◌, ◌≤◌, ◌<◌}
use mathlib.Core.Path.{◌≡◌, ap, ◌∙◌}
use mathlib.Core.List.{List, [], ◌++◌, append_assoc, append-nil}
use native.Mathlib.Omega.{arith}
use native.Mathlib.Numerals.{add-one}
use lib.ListN.{length, get_or, take, drop, length-append, drop_of_length-le}
use lib.Seq.{sets, sets-eq, length-sets, length-take-le, take_at, take_all, drop-cons, drop-drop, get_or-drop}
use borrow.Rule.Slice.PartMut.{put_mid}
use Rattle.par.specs.declared.Status.{Status}
use Rattle.par.specs.Status.{status_of}
use Rattle.engine.proofs.Buffers.{put_back}
use Rattle.printout.specs.Text.{line}
use Rattle.printout.proofs.Words.{line_long}
use Rattle.printout.proofs.Outputs.{drop_sets}
use Rattle.printout.proofs.Lines.{lines_in}

-- ---- a run of bytes, and what stands before it

take_sets : (l : List ℕ) (p : ℕ) (vs : List ℕ) (k : ℕ) → length vs ≡ k → p + k ≤ length l → take (p + k) (sets l p vs) ≡ take p l ++ vs
take_sets l p vs k e h =
    rw (sets-eq vs l p (omega arith)) (take_at (take p l ++ vs) _ (p + k) (simp length-append (omega (arith, length-take-le p l (omega arith)))))

-- ---- the lines that are left

lines_none : (events : List ℕ) (i : ℕ) (records : List ℕ) → length events ≤ i → lines_in (drop i events) records ≡ []
unfolding lines_in
lines_none events i records h = rw (drop_of_length-le events h)

lines_one : (events : List ℕ) (i : ℕ) → i < length events → (output : List ℕ) (from : ℕ)
    → lines_in (drop i events) (drop from output)
    ≡ line (get_or events i 0) (get_or output (from + 4) 0 + 256 * get_or output (from + 5) 0) (status_of (get_or output (from + 6) 0))
    ++ lines_in (drop (i + 1) events) (drop (from + 7) output)
unfolding lines_in
lines_one events i h output from = rw (drop-cons events i 0 h, add-one i) (simp (get_or-drop, drop-drop))

-- ---- the loop's invariant

pub record Printing (events output₀ output : List ℕ) (i : ℕ) : Type 0 where
  pub long : length output ≡ length output₀
  pub rest : take (16 * i) output ++ lines_in (drop i events) (drop (9 * length events + 7 * i) output)
      ≡ lines_in events (drop (9 * length events) output₀)

module _ {events output₀ output : List ℕ} {i : ℕ} (room : length output₀ ≡ 16 * length events) (now : Printing events output₀ output i) where
  pub printing_turn : i < length events → {n : ℕ} {s : Status} {back : List ℕ}
      → n ≡ get_or output (9 * length events + 7 * i + 4) 0 + 256 * get_or output (9 * length events + 7 * i + 5) 0
      → s ≡ status_of (get_or output (9 * length events + 7 * i + 6) 0)
      → back ≡ sets (take (length output - 16 * i) (drop (16 * i) output)) 0 (line (get_or events i 0) n s)
      → Printing events output₀ (put_mid (16 * i) (length output - 16 * i) output back) (i + 1)
  printing_turn h {n} {s} {back} notices status put =
      let at = 16 * i in
      let from = 9 * length events + 7 * i in
      let bytes = line (get_or events i 0) n s in
      let wide = line_long (get_or events i 0) n s in
      let long = now.long in
      let written = put_back output at bytes back (omega arith) put in
      let next : 16 * (i + 1) ≡ at + 16 = omega arith in
      let next-from : 9 * length events + 7 * (i + 1) ≡ from + 7 = omega arith in
      record {
        long = ap length written ∙ length-sets output at bytes ∙ long;
        rest =
            rw (written, next, next-from, take_sets output at bytes 16 wide (omega arith), drop_sets output at bytes (from + 7) (omega arith), append_assoc)
            (rw (lines_one events i h output from, ← notices, ← status) at now.rest);
      }

  pub printing_ended : length events ≤ i → output ≡ lines_in events (drop (9 * length events) output₀)
  printing_ended h =
      let long = now.long in
      rw (lines_none events i _ h, take_all (16 * i) output (omega arith), append-nil) at now.rest
