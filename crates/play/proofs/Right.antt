-- The main theorem: where the words say e, one event downwards over e's nodes gives e's status, notices and lines, and leaves words that say what
-- remains of e. A part that holds no event that came waits, and nothing of it changes.
use Prim.Native.Nat.{ℕ, zero, suc, ◌^◌, ◌≤◌, ◌<◌}
use mathlib.Core.Path.{◌≡◌, refl, sym, ◌∙◌}
use mathlib.Core.Bool.{Bool, true, false, true≢false}
use mathlib.Core.List.{List}
use native.Mathlib.Numerals.{add-one}
use native.Mathlib.Omega.{arith}
use lib.Dec.{eqb}
use Rattle.par.specs.declared.Status.TheVariants.{Waiting}
use Rattle.par.specs.Expr.{Expr}
use Rattle.play.specs.declared.ways.Route.{Route}
use Rattle.play.specs.declared.ways.Route.TheVariants.{Both, Left, Right}
use Rattle.play.specs.Mirror.Masks.{bit, hit}
use Rattle.play.proofs.Compared.{Clear}
use Rattle.play.specs.Mirror.Nodes.{first_at, gain_at}
use Rattle.play.specs.declared.ends.Words.{Words}
use Rattle.play.specs.Mirror.Down.{Made, made, pair_route, one_status, one_active, one_going, one_sent, one_end}
use Rattle.play.specs.Mirror.Down.{both_status, left_active, both_active, try_counted, both_counted, both_end, down}
use Rattle.play.proofs.Plays.{Two, Plays}
use Rattle.play.proofs.Plays.{Plays.silent, Plays.event, Plays.not, Plays.notify, Plays.repeat_fresh, Plays.repeat_going}
use Rattle.play.proofs.Plays.{Plays.either_both, Plays.either_first, Plays.either_second, Plays.then_first, Plays.then_second}
use Rattle.play.proofs.Plays.{Plays.try_both, Plays.try_first}
use Rattle.play.proofs.Digits.{and_true}
use Rattle.play.proofs.Spans.{hit_false, hit_clear}
use Rattle.play.proofs.Ranges.{clear_one, clear_within}
use Rattle.play.proofs.Rests.{sub_one}
use Rattle.play.proofs.Did.{Ready, Did, ready_within, ready_behind}
use Rattle.play.proofs.DidOne.{silent_did, event_idle, event_did, not_did, notify_did, again_did, repeat_did}
use Rattle.play.proofs.DidTwo.{then_did, first_did, second_did, either_did, try_did}
use Rattle.play.proofs.Held.{quiet_node, quiet_part, unclear, held_one, held_first, held_second, way_of, took_event, took_one, took_pair}

-- an event in play is met if it is the one that came
event_met : {F : List ℕ} {L R T a A r : ℕ} {st : Words} (b : ℕ) → Ready F L R T a A r r st → bit L r ≡ true → first_at F r ≡ b → bit A r ≡ true
    → eqb b a ≡ bit T r
event_met {a = a} {r = r} b d l i p = sym (d.due r (omega arith) (omega arith) ∙ rw (l, i, p) (and_true (eqb b a)))

-- ---- no event that came

-- the nodes lo .. r are ready, and none of them holds one
abbrev Quiet : List ℕ → ℕ → ℕ → ℕ → ℕ → ℕ → ℕ → ℕ → Words → Type 0
Quiet F L R T a A lo r st = Ready F L R T a A lo r st × Clear T lo r

within : {F : List ℕ} {L R T a A lo r lo' r' : ℕ} {st : Words} → lo ≤ lo' → r' ≤ r → Quiet F L R T a A lo r st
    → Quiet F L R T a A lo' r' st
within h k (b, c) = (ready_within h k b, clear_within h k c)

module _ {F G : List ℕ} {L R T a : ℕ} where
  idles : {A W lo r : ℕ} {e : Expr} {st : Words} → Plays F G L R A W lo r e → Quiet F L R T a A lo r st → Did F G L R a lo r e st (made Waiting st)
  unfolding one_end one_status one_active one_going one_sent both_end both_status both_active left_active both_counted try_counted
  idles (silent at l p) (b, c) = silent_did b p at l
  idles {r = r} (event {b = z} at l i p) (b, c) = event_idle b p at l i (event_met z b l i p ∙ c.off r (omega arith) (omega arith))
  idles (not at p m) (b, c) = not_did b p at.within (idles m (within (omega arith) (omega arith) (b, c))) 0 at
  idles (notify {N = N} at p i m) (b, c) = notify_did b p at.within (idles m (within (omega arith) (omega arith) (b, c))) N at i
  idles (repeat_fresh at i p w m g o) (b, c) =
      repeat_did (again_did b p at.within (idles m (within (omega arith) (omega arith) (b, c))) at i g o)
  idles (repeat_going at i p w m g o) (b, c) = again_did b p at.within (idles m (within (omega arith) (omega arith) (b, c))) at i g o
  idles (either_both at p m n) (b, c) =
      either_did b at.within at.apart p (idles m (within (omega arith) (omega arith) (b, c))) (idles n (within (omega arith) (omega arith) (b, c))) at
  idles (either_first at p m k) (b, c) =
      first_did b at.within at.apart k (idles m (within (omega arith) (omega arith) (b, c))) (either_first at) p
  idles (either_second at p k n) (b, c) =
      second_did b at.within at.apart k p (idles n (within (omega arith) (omega arith) (b, c))) (either_second at)
  idles (then_first at p m k g o) (b, c) =
      then_did b at.within at.apart k (idles m (within (omega arith) (omega arith) (b, c))) p at g o
  idles (then_second at p k n) (b, c) =
      second_did b at.within at.apart k p (idles n (within (omega arith) (omega arith) (b, c))) (then_second at)
  idles (try_both at p m n) (b, c) =
      try_did b at.within at.apart p (idles m (within (omega arith) (omega arith) (b, c))) (idles n (within (omega arith) (omega arith) (b, c))) at
  idles (try_first at p m k) (b, c) =
      first_did b at.within at.apart k (idles m (within (omega arith) (omega arith) (b, c))) (try_first at) p

  pub idle : {A W lo r : ℕ} {e : Expr} {st : Words} → Plays F G L R A W lo r e → Ready F L R T a A lo r st → Clear T lo r
      → Did F G L R a lo r e st (made Waiting st)
  idle m b c = idles m (b, c)

-- ---- one that came

-- either or try, in play: each part that holds an event that came is stepped, the other is idle
both_ways : {F G : List ℕ} {L R a : ℕ} (T f : ℕ) {lo x y kind : ℕ} {u d e : Expr} {st : Words} → Two F L kind lo x y
    → ((k : Route) → way_of kind k ≡ k) → eqb kind 5 ≡ false → bit st.active (suc y) ≡ true
    → (hit T lo x ≡ true → Did F G L R a lo x d st (down F G T f lo x st)) → (hit T lo x ≡ false → Did F G L R a lo x d st (made Waiting st))
    → ((m : Made) → Did F G L R a lo x d st m → hit T (suc x) y ≡ true → Did F G L R a (suc x) y e m.after (down F G T f (suc x) y m.after))
    → ((m : Made) → Did F G L R a lo x d st m → hit T (suc x) y ≡ false → Did F G L R a (suc x) y e m.after (made Waiting m.after))
    → ((m k : Made) → Did F G L R a lo x d st m → Did F G L R a (suc x) y e m.after k
    → Did F G L R a lo (suc y) u st (both_end kind lo x (suc y) m.status k))
    → (hit T lo x ≡ false → hit T (suc x) y ≡ true) → Did F G L R a lo (suc y) u st (down F G T (suc f) lo (suc y) st)
unfolding pair_route
both_ways {F} {G} {L} {R} {a} T f {lo = lo} {x = x} {y = y} {u = u} {st = st} at w n p first first' second second' ends one =
    go (hit T lo x) refl (hit T (suc x) y) refl
  where
    go : (b : Bool) → hit T lo x ≡ b → (c : Bool) → hit T (suc x) y ≡ c → Did F G L R a lo (suc y) u st (down F G T (suc f) lo (suc y) st)
    go true i true j =
        rw (took_pair F G T f lo st at p i j, n, w Both, add-one x, sub_one y) (ends _ _ (first i) (second (down F G T f lo x st) (first i) j))
    go true i false j = rw (took_pair F G T f lo st at p i j, n, w Left) (ends _ _ (first i) (second' (down F G T f lo x st) (first i) j))
    go false i true j =
        rw (took_pair F G T f lo st at p i j, n, w Right, add-one x, sub_one y) (ends _ _ (first' i) (second (made Waiting st) (first' i) j))
    go false i false j = absurd (true≢false (sym (one i) ∙ j))

module _ {F G : List ℕ} {L R T a : ℕ} where
  pub does : {A W lo r : ℕ} {e : Expr} {st : Words} (f : ℕ) → Plays F G L R A W lo r e → r < f → T < 2 ^ 64 → Ready F L R T a A lo r st
      → hit T lo r ≡ true → Did F G L R a lo r e st (down F G T f lo r st)
  unfolding pair_route
  does zero m u small b h = absurd (omega arith)
  does (suc f) (silent at l p) u small b h = absurd (unclear small h (quiet_node b (omega arith) l))
  does {r = r} {st = st} (suc f) (event {b = z} at l i p) u small b h =
      rw (took_event F G T f r st) (event_did b p at (event_met z b l i p ∙ here (bit T r) refl))
    where
      here : (t : Bool) → bit T r ≡ t → t ≡ true
      here true j = refl
      here false j = absurd (unclear small h (clear_one j))
  does {lo = lo} {st = st} (suc f) (not {x = x} at p m) u small b h =
      rw (took_one F G T f lo st at)
      (not_did b p at.within (does f m (omega arith) small (ready_within (omega arith) (omega arith) b) (held_one small b at h)) (gain_at G (suc x)) at)
  does {lo = lo} {st = st} (suc f) (notify {N = N} at p i m) u small b h =
      rw (took_one F G T f lo st at)
      (notify_did b p at.within (does f m (omega arith) small (ready_within (omega arith) (omega arith) b) (held_one small b at h)) N at i)
  does {lo = lo} {st = st} (suc f) (repeat_fresh at i p w m g o) u small b h =
      rw (took_one F G T f lo st at)
      (repeat_did
      (again_did b p at.within (does f m (omega arith) small (ready_within (omega arith) (omega arith) b) (held_one small b at h)) at i g o))
  does {lo = lo} {st = st} (suc f) (repeat_going at i p w m g o) u small b h =
      rw (took_one F G T f lo st at)
      (again_did b p at.within (does f m (omega arith) small (ready_within (omega arith) (omega arith) b) (held_one small b at h)) at i g o)
  does {lo = lo} (suc f) (either_both {x = x} {y = y} at p m n) u small b h =
      both_ways T f at (λ k. refl) refl (b.play.at (suc y) (omega arith) (omega arith) ∙ p)
      (λ i. does f m (omega arith) small (ready_within (omega arith) (omega arith) b) i)
      (λ i. idle m (ready_within (omega arith) (omega arith) b) (hit_false T lo x i))
      (λ k g i. does f n (omega arith) small (ready_behind (omega arith) (ready_within (omega arith) (omega arith) b) g.beside) i)
      (λ k g i. idle n (ready_behind (omega arith) (ready_within (omega arith) (omega arith) b) g.beside) (hit_false T (suc x) y i))
      (λ k l g j. either_did b at.within at.apart p g j at) (held_second small b at h)
  does {lo = lo} (suc f) (try_both {x = x} {y = y} at p m n) u small b h =
      both_ways T f at (λ k. refl) refl (b.play.at (suc y) (omega arith) (omega arith) ∙ p)
      (λ i. does f m (omega arith) small (ready_within (omega arith) (omega arith) b) i)
      (λ i. idle m (ready_within (omega arith) (omega arith) b) (hit_false T lo x i))
      (λ k g i. does f n (omega arith) small (ready_behind (omega arith) (ready_within (omega arith) (omega arith) b) g.beside) i)
      (λ k g i. idle n (ready_behind (omega arith) (ready_within (omega arith) (omega arith) b) g.beside) (hit_false T (suc x) y i))
      (λ k l g j. try_did b at.within at.apart p g j at) (held_second small b at h)
  does {lo = lo} {st = st} (suc f) (either_first {y = y} at p m c) u small b h =
      let i = held_first small b at h c in
      rw (took_pair F G T f lo st at (b.play.at (suc y) (omega arith) (omega arith) ∙ p) i refl)
      (first_did b at.within at.apart c (does f m (omega arith) small (ready_within (omega arith) (omega arith) b) i) (either_first at) p)
  does {lo = lo} {st = st} (suc f) (try_first {y = y} at p m c) u small b h =
      let i = held_first small b at h c in
      rw (took_pair F G T f lo st at (b.play.at (suc y) (omega arith) (omega arith) ∙ p) i refl)
      (first_did b at.within at.apart c (does f m (omega arith) small (ready_within (omega arith) (omega arith) b) i) (try_first at) p)
  does {lo = lo} {st = st} (suc f) (then_first {y = y} at p m c g o) u small b h =
      let i = held_first small b at h c in
      rw (took_pair F G T f lo st at (b.play.at (suc y) (omega arith) (omega arith) ∙ p) i refl)
      (then_did b at.within at.apart c (does f m (omega arith) small (ready_within (omega arith) (omega arith) b) i) p at g o)
  does {lo = lo} {st = st} (suc f) (either_second {x = x} {y = y} at p c n) u small b h =
      let i = hit_clear T lo x small (quiet_part b (omega arith) (omega arith) c) in
      rw (took_pair F G T f lo st at (b.play.at (suc y) (omega arith) (omega arith) ∙ p) i refl, add-one x, sub_one y)
      (second_did b at.within at.apart c p
      (does f n (omega arith) small (ready_within (omega arith) (omega arith) b) (held_second small b at h i)) (either_second at))
  does {lo = lo} {st = st} (suc f) (then_second {x = x} {y = y} at p c n) u small b h =
      let i = hit_clear T lo x small (quiet_part b (omega arith) (omega arith) c) in
      rw (took_pair F G T f lo st at (b.play.at (suc y) (omega arith) (omega arith) ∙ p) i refl, add-one x, sub_one y)
      (second_did b at.within at.apart c p
      (does f n (omega arith) small (ready_within (omega arith) (omega arith) b) (held_second small b at h i)) (then_second at))
