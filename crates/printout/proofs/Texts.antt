-- The text of an input, by its outcome; the text of a rule's nodes is that of the rule, and where it goes in the output.
use Prim.Native.Nat.{ℕ, zero, suc, ◌+◌, ◌*◌, ◌-◌, ◌≤◌, ◌<◌}
use mathlib.Core.Path.{◌≡◌, refl, sym, ap, ◌∙◌}
use mathlib.Core.Logic.{◌≢◌}
use mathlib.Core.List.{List, [], ◌∷◌}
use native.Mathlib.Omega.{arith}
use lib.ListN.{length, get_or, take, drop, length-append, length-drop}
use lib.Seq.{sets, length-sets, take_all, get_or-drop}
use lib.Dec.{eqb, ltb}
use borrow.Author.Tests.{ltb-false, lt-ltb, le-ltb, le-leb, eq-eqb, ne_eqb}
use borrow.Rule.Slice.PartMut.{put_mid}
use Rattle.par.specs.declared.Answer.{Answer}
use Rattle.par.specs.Expr.{Expr, size}
use Rattle.par.specs.Step.{status as status_of, notices as notices_of, remainder}
use Rattle.par.specs.Feed.{answers, Bytes}
use Rattle.records.specs.declared.refusal.Refusal.{Refusal}
use Rattle.records.specs.Refusals.{number_of}
use Rattle.records.proofs.Refusals.{refusal_some}
use Rattle.records.specs.Fields.{word_at}
use Rattle.records.proofs.Tests.{cond_case, cond_all}
use Rattle.files.specs.Rule.{rule, rule_number}
use Rattle.ready.specs.declared.Ready.{Ready}
use Rattle.ready.specs.Mirror.Ready.{ready_of}
use Rattle.ready.proofs.Promises.{root_size}
use Rattle.engine.specs.Feed.{answer_bytes}
use Rattle.engine.specs.Mirror.Feed.{fed_from, fed_bytes}
use Rattle.engine.proofs.Bytes.{all_bytes}
use Rattle.engine.proofs.Promises.{rule_fed}
use Rattle.printout.specs.Text.{rule_word, decimal_length, decimal, line, lines, refused_text, rule_text, rule_in, events_in, text}
use Rattle.printout.specs.Printed.{PrintedAs}
use Rattle.printout.specs.Mirror.Lines.{lines_of, rule_text_of}
use Rattle.printout.proofs.Words.{decimal_long, decimal_few, line_long}
use Rattle.printout.proofs.Outputs.{sets_behind, put_part, sets_over, read_part}
use Rattle.printout.proofs.Lines.{answer_bytes_long, lines_of_long, lines_answers}

-- ---- the text of a rule's nodes in the output

module _ (l : List ℕ) (root : ℕ) (events : List ℕ) (rs : List Answer) (many : length rs ≡ length events) {head : ℕ}
    (is : head ≡ 6 + decimal_length (root + 1)) where
  pub rule_long : head + 16 * length events ≡ length (rule_text_of root events rs)
  rule_long = omega (arith, decimal_long (root + 1), lines_of_long events rs many, length-append (decimal (root + 1)) (lines_of events rs))

  module _ {l₁ l₂ : List ℕ} (e₁ : l₁ ≡ sets l 0 rule_word) (e₂ : l₂ ≡ sets l₁ 5 (decimal (root + 1))) (room : head + 16 * length events ≤ length l) where
    long : length l₂ ≡ length l
    long = ap length e₂ ∙ length-sets l₁ 5 (decimal (root + 1)) ∙ ap length e₁ ∙ length-sets l 0 rule_word

    -- the records stand where the lines end
    pub rule_records : drop (9 * length events) (take (16 * length events) (drop head (sets l₂ (head + 9 * length events) (answer_bytes rs)))) ≡ answer_bytes rs
    rule_records =
        read_part l₂ head (16 * length events) (9 * length events) (answer_bytes rs) (omega (arith, answer_bytes_long rs, many)) (omega (arith, long))

    -- "rule ", the size, and the lines over the records
    pub rule_put : put_mid head (16 * length events) (sets l₂ (head + 9 * length events) (answer_bytes rs)) (lines_of events rs)
        ≡ sets l 0 (rule_text_of root events rs)
    rule_put =
        let wide = lines_of_long events rs many in
        let behind : 5 + (decimal_length (root + 1) + 1) ≡ head = omega arith in
        put_part (sets l₂ (head + 9 * length events) (answer_bytes rs)) head (lines_of events rs) wide
        (rw (length-sets l₂ (head + 9 * length events) (answer_bytes rs)) (omega (arith, long)))
        ∙ sets_over l₂ head (lines_of events rs) (head + 9 * length events) (answer_bytes rs) (omega arith) (omega (arith, answer_bytes_long rs, many, wide))
        (omega (arith, long, wide))
        ∙ rw (e₂, e₁, ← behind)
        (sym (sets_behind (sets l 0 rule_word) 5 (decimal (root + 1)) (lines_of events rs) (decimal_length (root + 1) + 1) (decimal_long (root + 1))))

-- ---- the text of a rule's nodes is that of the rule

pub rule_text_lem : (r : List ℕ) → rule_number r ≡ 0 → (events : List ℕ)
    → rule_text_of (ready_of r).root events (answers (rule r) events) ≡ rule_text (rule r) events
rule_text_lem r accepted events = rw (root_size r accepted, lines_answers (rule r) events) refl

-- ---- the bytes of the rule file

take_below : (n : ℕ) (l : List ℕ) → ((i : ℕ) → get_or l i 0 < 256) → (i : ℕ) → get_or (take n l) i 0 < 256
take_below zero l small i = omega arith
take_below (suc n) [] small i = omega arith
take_below (suc n) (x ∷ l) small zero = small 0
take_below (suc n) (x ∷ l) small (suc i) = take_below n l (λ j. small (suc j)) i

rule_bytes : (s : List ℕ) → ((i : ℕ) → get_or s i 0 < 256) → Bytes (rule_in s)
rule_bytes s small = all_bytes (rule_in s) (take_below (word_at s 0 0) (drop 2 s) (λ i. rw (get_or-drop 2 s i 0) (small (2 + i))))

-- ---- the text, by its outcome

module _ (s : List ℕ) where
  pub text_large : 8192 < length s → text s ≡ refused_text 17
  unfolding text
  text_large h = rw (lt-ltb 8192 (length s) h)

  module _ (few : length s ≤ 8192) where
    pub text_short : length s < 2 → text s ≡ refused_text 2
    unfolding text
    text_short h = rw (le-ltb 8192 (length s) few, lt-ltb (length s) 2 h)

    module _ (some : 2 ≤ length s) where
      pub text_cut : length s - 2 < word_at s 0 0 → text s ≡ refused_text 2
      unfolding text
      text_cut h = rw (le-ltb 8192 (length s) few, le-ltb (length s) 2 some, lt-ltb (length s - 2) (word_at s 0 0) h)

      module _ (whole : word_at s 0 0 ≤ length s - 2) where
        pub text_refused : rule_number (rule_in s) ≢ 0 → text s ≡ refused_text (rule_number (rule_in s))
        unfolding text
        text_refused h =
            rw (le-ltb 8192 (length s) few, le-ltb (length s) 2 some, le-ltb (length s - 2) (word_at s 0 0) whole, ne_eqb (rule_number (rule_in s)) 0 h)

        pub text_rule : rule_number (rule_in s) ≡ 0 → text s ≡ rule_text (rule (rule_in s)) (events_in s)
        unfolding text
        text_rule h =
            rw (le-ltb 8192 (length s) few, le-ltb (length s) 2 some, le-ltb (length s - 2) (word_at s 0 0) whole, eq-eqb (rule_number (rule_in s)) 0 h)

-- ---- how long a text is

lines_wide : (x : Expr) (events : List ℕ) → length (lines x events) ≡ 16 * length events
unfolding lines
lines_wide x [] = refl
lines_wide x (a ∷ events) =
    let rest = lines_wide (remainder x a) events in
    length-append (line a (notices_of x a) (status_of x a)) _ ∙ omega (arith, line_long a (notices_of x a) (status_of x a))

refused_fits : (n : ℕ) → length (refused_text n) ≤ 131048
refused_fits n = omega (arith, decimal_long n, decimal_few n)

rule_fits : (x : Expr) (events : List ℕ) → length events ≤ 8190 → length (rule_text x events) ≤ 131048
rule_fits x events h =
    omega (arith, decimal_long (size x), decimal_few (size x), lines_wide x events, length-append (decimal (size x)) (lines x events))

-- at most 8,190 lines stand behind the first
pub text_fits : (s : List ℕ) → length (text s) ≤ 131048
unfolding text
text_fits s =
    let P : List ℕ → Type 0 = λ t. length t ≤ 131048 in
    cond_case P (ltb 8192 (length s)) _ _ (λ _. refused_fits 17) λ e.
    let few = ltb-false 8192 (length s) e in
    let events : length (events_in s) ≤ 8190 = rw (length-drop (2 + word_at s 0 0) s) (omega arith) in
    cond_all P (ltb (length s) 2) _ _ (refused_fits 2)
    (cond_all P (ltb (length s - 2) (word_at s 0 0)) _ _ (refused_fits 2)
    (cond_all P (eqb (rule_number (rule_in s)) 0) _ _ (rule_fits (rule (rule_in s)) (events_in s) events) (refused_fits (rule_number (rule_in s)))))

-- where the output has room for any text, the text stands at its front whole
pub text_stands : (s : List ℕ) {output : List ℕ} {n : ℕ} {l : List ℕ} → PrintedAs (text s) output n l → 131048 ≤ length output
    → (n ≤ length l) × (l ≡ sets output 0 (text s))
text_stands s {output} {n} {l} p room =
    let fits = text_fits s in
    let bytes : l ≡ sets output 0 (text s) = p.bytes ∙ rw (le-leb (length (text s)) (length output) (omega arith)) in
    let long : length l ≡ length output = ap length bytes ∙ length-sets output 0 (text s) in
    (omega (arith, p.long), bytes)

-- ---- the code: an input whose rule file is k bytes long, and the rule of that file

module _ (s : List ℕ) {k : ℕ} (is : k ≡ word_at s 0 0) (few : length s ≤ 8192) (some : 2 ≤ length s) (whole : k ≤ length s - 2) where
  file_in : take (2 + k - 2) (drop 2 s) ≡ rule_in s
  file_in =
      let e : 2 + k - 2 ≡ word_at s 0 0 = omega arith in
      ap (λ (m : ℕ). take m (drop 2 s)) e

  pub text_refused_in : (r : Refusal) → number_of r ≡ rule_number (take (2 + k - 2) (drop 2 s)) → text s ≡ refused_text (number_of r)
  text_refused_in r e =
      let is-number : number_of r ≡ rule_number (rule_in s) = e ∙ ap rule_number file_in in
      rw is-number (text_refused s few some (omega arith) (λ z. refusal_some r (is-number ∙ z)))

  events_in_lem : take (length s - (2 + k)) (drop (2 + k) s) ≡ events_in s
  events_in_lem = take_all (length s - (2 + k)) (drop (2 + k) s) (rw (length-drop (2 + k) s) (omega arith)) ∙ ap (λ (m : ℕ). drop (2 + m) s) is

  module _ (small : (i : ℕ) → get_or s i 0 < 256) {n : Ready} (made : n ≡ ready_of (take (2 + k - 2) (drop 2 s)))
      (accepted : 0 ≡ rule_number (take (2 + k - 2) (drop 2 s))) where
    ready_in : n ≡ ready_of (rule_in s)
    ready_in = made ∙ ap ready_of file_in

    accepts : rule_number (rule_in s) ≡ 0
    accepts = sym (accepted ∙ ap rule_number file_in)

    -- what the player writes is the answers of the rule, and the text made of them that of the input
    pub fed_in : fed_from n.nodes n.gain n.leaves n.repeats n.root n.fresh (take (length s - (2 + k)) (drop (2 + k) s))
        ≡ answer_bytes (answers (rule (rule_in s)) (take (length s - (2 + k)) (drop (2 + k) s)))
    unfolding fed_bytes
    fed_in = rw ready_in (rule_fed (rule_in s) (rule_bytes s small) accepts (take (length s - (2 + k)) (drop (2 + k) s)))

    pub text_in : text s
        ≡ rule_text_of n.root (take (length s - (2 + k)) (drop (2 + k) s)) (answers (rule (rule_in s)) (take (length s - (2 + k)) (drop (2 + k) s)))
    text_in = text_rule s few some (omega arith) accepts ∙ rw (events_in_lem, ready_in) (sym (rule_text_lem (rule_in s) accepts (events_in s)))
