-- What one event did to the nodes of an expression: how the words stand before it, and what it leaves.
use Prim.Native.Nat.{ℕ, suc, ◌+◌, ◌≤◌, ◌<◌}
use mathlib.Core.Path.{◌≡◌, ◌∙◌}
use mathlib.Core.Bool.{true, ◌&&◌}
use mathlib.Core.List.{List}
use native.Mathlib.Omega.{arith}
use Rattle.par.specs.declared.Status.TheVariants.{Waiting}
use Rattle.par.specs.Expr.{Expr, join}
use Rattle.par.specs.Step.{status as status_of, notices as notices_of, lines as lines_of, remainder}
use Rattle.play.specs.Mirror.Masks.{bit}
use Rattle.play.proofs.Compared.{upto, Clear, Agree, Same}
use Rattle.play.specs.declared.ends.Words.{Words}
use Rattle.play.specs.Mirror.Down.{Made}
use Rattle.play.specs.Mirror.Step.{met_at}
use Rattle.play.proofs.Plays.{Plays}
use Rattle.play.proofs.Counts.{upto_on}
use Rattle.play.proofs.Ranges.{same_self, same_on, same_wider, agree_on, agree_within, agree_behind}
use Rattle.play.proofs.Rests.{done}

-- ---- before and after

-- the words are one outside lo .. r
pub record Beside (lo r : ℕ) (st st' : Words) : Type 0 where
  pub active : Same lo r st.active st'.active
  pub going : Same lo r st.going st'.going
  pub counted : Same lo r st.counted st'.counted

pub beside_self : {lo r : ℕ} {st : Words} → Beside lo r st st
beside_self = record { active = same_self; going = same_self; counted = same_self }

pub beside_on : {lo r : ℕ} {st st' st'' : Words} → Beside lo r st st' → Beside lo r st' st'' → Beside lo r st st''
beside_on b c = record { active = same_on b.active c.active; going = same_on b.going c.going; counted = same_on b.counted c.counted }

pub beside_wider : {lo r lo' r' : ℕ} {st st' : Words} → lo ≤ lo' → r' ≤ r → Beside lo' r' st st' → Beside lo r st st'
beside_wider h k b = record { active = same_wider h k b.active; going = same_wider h k b.going; counted = same_wider h k b.counted }

-- before the nodes lo .. r: A are in play, every repeat among them is taken to go on, all lines count, and T are the events that came
pub record Ready (F : List ℕ) (L R T a A lo r : ℕ) (st : Words) : Type 0 where
  pub play : Agree lo r A st.active
  pub goes : (q : ℕ) → lo ≤ q → q ≤ r → bit st.going q ≡ (bit A q && bit R q)
  pub counted : Agree lo r A st.counted
  pub due : (q : ℕ) → lo ≤ q → q ≤ r → bit T q ≡ met_at F L a A q

-- after them
pub record Did (F G : List ℕ) (L R a lo r : ℕ) (e : Expr) (st : Words) (m : Made) : Type 0 where
  pub status : m.status ≡ status_of e a
  pub sent : m.after.notices ≡ join st.notices (notices_of e a)
  pub lines : (M : ℕ) → Agree lo r m.after.counted M → upto M (suc r) ≡ upto M lo + lines_of e a
  pub plays : status_of e a ≡ Waiting → Plays F G L R m.after.active m.after.going lo r (remainder e a)
  pub off : done (status_of e a) ≡ true → Clear m.after.active lo r
  pub beside : Beside lo r st m.after

-- what the words say of node r
pub record At (R A r : ℕ) (st : Words) : Type 0 where
  pub play : bit st.active r ≡ bit A r
  pub goes : bit st.going r ≡ (bit A r && bit R r)
  pub counted : bit st.counted r ≡ bit A r

-- behind the nodes that were done
pub at_behind : {F : List ℕ} {L R T a A lo r lo' x : ℕ} {st st' : Words} → lo ≤ r → x < r → Ready F L R T a A lo r st
    → Beside lo' x st st' → At R A r st'
at_behind {r = r} h k b s =
    record {
      play = s.active.above r k ∙ b.play.at r h (omega arith);
      goes = s.going.above r k ∙ b.goes r h (omega arith);
      counted = s.counted.above r k ∙ b.counted.at r h (omega arith);
    }

module _ {F : List ℕ} {L R T a A : ℕ} where
  pub ready_within : {lo r lo' r' : ℕ} {st : Words} → lo ≤ lo' → r' ≤ r → Ready F L R T a A lo r st → Ready F L R T a A lo' r' st
  ready_within h k b =
      record {
        play = agree_within h k b.play;
        goes = λ q l m. b.goes q (omega arith) (omega arith);
        counted = agree_within h k b.counted;
        due = λ q l m. b.due q (omega arith) (omega arith);
      }

  pub ready_behind : {lo lo' x y : ℕ} {st st' : Words} → x < lo' → Ready F L R T a A lo' y st → Beside lo x st st'
      → Ready F L R T a A lo' y st'
  ready_behind h b s =
      record {
        play = agree_on b.play (agree_behind h s.active);
        goes = λ q l m. s.going.above q (omega arith) ∙ b.goes q l m;
        counted = agree_on b.counted (agree_behind h s.counted);
        due = b.due;
      }

-- ---- lines: a node in play counts

pub counts : (M lo r n : ℕ) → bit M r ≡ true → upto M r ≡ upto M lo + n → upto M (suc r) ≡ upto M lo + (n + 1)
counts M lo r n i e = let on = upto_on M r i in omega arith
