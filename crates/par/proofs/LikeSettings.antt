-- Two larger rules, the settings, tell apart whatever is not alike: `same_in_both_like`; and how they do: `brought_to_light`.
use Prim.Native.Nat.{ℕ, ◌<◌}
use mathlib.Core.Path.{◌≡◌, refl, sym, ap₂, ◌∙◌}
use mathlib.Core.List.{List, [], ◌∷◌}
use mathlib.Core.Logic.{◌⊎◌, inl, inr, ◌≢◌}
use native.Mathlib.Decide.{ℕ_discrete}
use Rattle.par.specs.declared.Status.{Status}
use Rattle.par.specs.declared.Status.TheVariants.{Waiting, Success, Failure}
use Rattle.par.specs.Status.{opposite}
use Rattle.par.specs.Expr.{Expr}
use Rattle.par.specs.Expr.{Expr.not}
use Rattle.par.specs.Step.{status, notices, remainder, kept, then_rest}
use Rattle.par.specs.Feed.{answers, notices_on, statuses_on, Bytes}
use Rattle.par.specs.Like.{Like, Closes}
use Rattle.par.specs.Exchange.{Setting, Setting.plain, Setting.reversed, in_setting, SameInBoth, ToldApart}
use Rattle.par.proofs.Order.{success_waiting, failure_waiting}
use Rattle.par.proofs.Figure4.{finished}
use Rattle.par.proofs.Agree.{notices_first, notices_rest}
use Rattle.par.proofs.LikeClosed.{closed_like}

-- ---- what the next event brings to light

-- After a success w is next in the plain setting, and in the reversed one nothing is; after a failure it is the other way round; while the
-- part waits, both settings send what it sends. So an event on which w sends something shows the status.
shown : (c d : Status) (u v w : Expr) (b : ℕ) → notices w b ≢ 0 → notices (then_rest c u w) b ≡ notices (then_rest d v w) b
    → notices (then_rest (opposite c) (kept c (not u)) w) b ≡ notices (then_rest (opposite d) (kept d (not v)) w) b → c ≡ d
unfolding notices
shown Waiting Waiting u v w b n p r = refl
shown Waiting Success u v w b n p r = absurd (n (sym p ∙ r))
shown Waiting Failure u v w b n p r = absurd (n (sym r ∙ p))
shown Success Waiting u v w b n p r = absurd (n (p ∙ sym r))
shown Success Success u v w b n p r = refl
shown Success Failure u v w b n p r = absurd (n p)
shown Failure Waiting u v w b n p r = absurd (n (r ∙ sym p))
shown Failure Success u v w b n p r = absurd (n r)
shown Failure Failure u v w b n p r = refl

-- where both parts wait, what remains of a setting is the setting of what remains
setting_rest : (s : Setting) (w x y : Expr) (a : ℕ) (feed : List ℕ) → status x a ≡ Waiting → status y a ≡ Waiting
    → notices_on (in_setting s w x) (a ∷ feed) ≡ notices_on (in_setting s w y) (a ∷ feed)
    → notices_on (in_setting s w (remainder x a)) feed ≡ notices_on (in_setting s w (remainder y a)) feed
unfolding status remainder
setting_rest plain w x y a feed p q e = let r = notices_rest (in_setting plain w x) (in_setting plain w y) a feed e in cc
setting_rest reversed w x y a feed p q e = let r = notices_rest (in_setting reversed w x) (in_setting reversed w y) a feed e in cc

-- both sides of what completes are silent
both_finished : (x y : Expr) (a : ℕ) {c : Status} → c ≢ Waiting → status x a ≡ c → status y a ≡ c → remainder x a ≡ remainder y a
both_finished x y a n p q = finished x a (λ e. n (sym p ∙ e)) ∙ sym (finished y a (λ e. n (sym q ∙ e)))

module _ (w : Expr) (b : ℕ) (byte : b < 256) (sends : notices w b ≢ 0) where
  -- after the event a, b shows no difference in the setting s
  abbrev NextSame : Setting → Expr → Expr → ℕ → Type 0
  NextSame s x y a = notices (remainder (in_setting s w x) a) b ≡ notices (remainder (in_setting s w y) a) b

  next_same : (x y : Expr) (a : ℕ) (s : Setting) → notices_on (in_setting s w x) (a ∷ b ∷ []) ≡ notices_on (in_setting s w y) (a ∷ b ∷ []) → NextSame s x y a
  next_same x y a s e =
      notices_first (remainder (in_setting s w x) a) (remainder (in_setting s w y) a) b [] (notices_rest (in_setting s w x) (in_setting s w y) a (b ∷ []) e)

  same_status : (x y : Expr) (a : ℕ) → NextSame plain x y a → NextSame reversed x y a → status x a ≡ status y a
  unfolding status remainder
  same_status x y a p r = shown (status x a) (status y a) (remainder x a) (remainder y a) w b sends p r

  -- ---- the pairs that neither setting tells apart are closed, so they are alike

  same_notices : {x y : Expr} → SameInBoth w x y → (a : ℕ) → a < 256 → notices x a ≡ notices y a
  unfolding notices
  same_notices {x} {y} h a l = notices_first (in_setting plain w x) (in_setting plain w y) a [] (h.same plain (a ∷ []) (l, tt))

  rest : {x y : Expr} → SameInBoth w x y → (a : ℕ) → a < 256 → (c : Status) → status x a ≡ c → status y a ≡ c
      → (remainder x a ≡ remainder y a) ⊎ SameInBoth w (remainder x a) (remainder y a)
  rest {x} {y} h a l Waiting p q = inr (record { same = λ s feed bs. setting_rest s w x y a feed p q (h.same s (a ∷ feed) (l, bs)) })
  rest {x} {y} h a l Success p q = inl (both_finished x y a success_waiting p q)
  rest {x} {y} h a l Failure p q = inl (both_finished x y a failure_waiting p q)

  closes : (x y : Expr) → SameInBoth w x y → (a : ℕ) → a < 256 → Closes (SameInBoth w) x y a
  closes x y h a l =
      let next : (s : Setting) → NextSame s x y a = λ s. next_same x y a s (h.same s (a ∷ b ∷ []) (l, (byte, tt))) in
      let e = same_status x y a (next plain) (next reversed) in
      record { notices_equal = same_notices h a l; statuses_equal = e; remainders = rest h a l (status y a) e refl }

  pub same_in_both_like : {x y : Expr} → SameInBoth w x y → Like x y
  same_in_both_like {x} {y} h = closed_like (SameInBoth w) (record { closes = closes }) x y h

  -- ---- where statuses differ, a setting and a feed that tell the two apart are found by looking at b after each event

  at_next : (x y : Expr) (a : ℕ) → a < 256 → (s : Setting) → ¬ NextSame s x y a → ToldApart w x y
  at_next x y a l s n = record { setting = s; feed = a ∷ b ∷ []; bytes = (l, (byte, tt)); differ = λ e. n (next_same x y a s e) }

  later : (x y : Expr) (a : ℕ) → a < 256 → status x a ≡ Waiting → status y a ≡ Waiting → ToldApart w (remainder x a) (remainder y a) → ToldApart w x y
  later x y a l p q t = record {
    setting = t.setting;
    feed = a ∷ t.feed;
    bytes = (l, t.bytes);
    differ = λ e. t.differ (setting_rest t.setting w x y a t.feed p q e);
  }

  module _ (x y : Expr) (a : ℕ) (l : a < 256) (feed : List ℕ) (differ : statuses_on x (a ∷ feed) ≢ statuses_on y (a ∷ feed))
      (ih : statuses_on (remainder x a) feed ≢ statuses_on (remainder y a) feed → ToldApart w (remainder x a) (remainder y a)) where
    on_rest : (c : Status) → status x a ≡ c → status y a ≡ c → ToldApart w x y
    unfolding answers
    on_rest Waiting p q = later x y a l p q (ih (λ e. differ (ap₂ (λ (c : Status) (t : List Status). c ∷ t) (p ∙ sym q) e)))
    on_rest Success p q = absurd (differ (let e = both_finished x y a success_waiting p q in cc))
    on_rest Failure p q = absurd (differ (let e = both_finished x y a failure_waiting p q in cc))

    now_or_later : Dec (NextSame plain x y a) → Dec (NextSame reversed x y a) → ToldApart w x y
    now_or_later (yes p) (yes r) = on_rest (status y a) (same_status x y a p r) refl
    now_or_later (yes p) (no n) = at_next x y a l reversed n
    now_or_later (no n) d = at_next x y a l plain n

  decide : (s : Setting) (x y : Expr) (a : ℕ) → Dec (NextSame s x y a)
  decide s x y a = ℕ_discrete (notices (remainder (in_setting s w x) a) b) (notices (remainder (in_setting s w y) a) b)

  pub brought_to_light : (feed : List ℕ) → Bytes feed → (x y : Expr) → statuses_on x feed ≢ statuses_on y feed → ToldApart w x y
  unfolding answers
  brought_to_light [] bs x y n = absurd (n refl)
  brought_to_light (a ∷ feed) (l, bs) x y n =
      now_or_later x y a l feed n (brought_to_light feed bs (remainder x a) (remainder y a)) (decide plain x y a) (decide reversed x y a)
