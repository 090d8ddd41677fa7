-- What a call asks of an instance: by a descriptor, by which it began, or as a step of a walk, of what was granted to it.
use Rattle.std.proofs.Common.{◌≡◌, ℕ, Bool, true, false, cond, List, Option, Some, None, sym, ◌∙◌, ap, subst, ◌⊎◌, inl, inr}
use Rattle.role_steps.proofs.of_plain_facts.Options.{some_same}
use Rattle.locus_ids.specs.declared.config.Config.{Config}
use Rattle.locus_ids.specs.declared.config.Mount.{Mount}
use Rattle.locus_ids.specs.declared.ids.CallId.{CallId}
use Rattle.locus_ids.specs.declared.ids.EpochId.{EpochId}
use Rattle.locus_ids.specs.declared.ids.Serial.{Serial}
use Rattle.locus_ids.specs.declared.refusal.Refusal.TheVariants as refusal
use Rattle.trace_book.specs.declared.call.Call.{Call}
use Rattle.trace_book.specs.declared.call.Call.TheVariants as call
use Rattle.trace_book.specs.declared.descriptor.Beginning.{Beginning}
use Rattle.trace_book.specs.declared.descriptor.Beginning.TheVariants as begins
use Rattle.trace_book.specs.declared.operation.Op.{Op}
use Rattle.trace_book.specs.declared.operation.Op.TheVariants as op
use Rattle.trace_book.specs.declared.reply.Reply.TheVariants as reply
use Rattle.call_rules.specs.Descriptors.{beginning}
use Rattle.call_rules.specs.Scripts.{named_wants}
use Rattle.call_rules.specs.Opening.{uses_wants}
use Rattle.call_rules.specs.Words.{is_badly_named}
use Rattle.call_rules.specs.declared.want.Want.TheVariants as want
use Rattle.the_run.specs.Worlds.{Line}
use Rattle.tree_model.specs.declared.accepted.Waiting.{Waiting}
use Rattle.tree_model.specs.declared.instance.Instance.{Instance}
use Rattle.tree_model.specs.Calls.{granted_to}
use Rattle.lawful_trace.specs.Progress.{Answers, is_packed_in}
use Rattle.lawful_trace.specs.Tables.{begun}
use Rattle.lawful_trace.specs.TreeRows.{IsCallIn}
use Rattle.tree_laws.proofs.OwnWalks.{walks_as}
use Rattle.tree_laws.specs.Calls.{Asks, log, script, script_as}
use Rattle.tree_laws.specs.Following.{IsFollowed}
use Rattle.tree_laws.specs.Instances.{instance_now}
use Rattle.tree_laws.specs.Printed.{entries}
use Rattle.tree_laws.proofs.Descriptors.{uses_from}
use Rattle.tree_laws.proofs.Orders.ProcessBegun.{comes_from}
use Rattle.store_laws.proofs.ScriptFitted.{Began, began}
use Rattle.store_laws.proofs.AnswerAskers.{op_had}
use Rattle.rest_laws.proofs.Fits.CalmAskingInserting.{unpacked}
use Rattle.rest_laws.proofs.Fits.CalmAskingWords.{IsUse, Uses, WalkAsks, named_so, use_so, AskedBy}
use Rattle.rest_laws.proofs.Fits.EntryWalking.{RereaderAsks}

-- ---- uses of descriptors ----

-- a use of a descriptor
abbrev pub UseOp : Op → Type 0
UseOp (op.Read at len) = Unit {0}
UseOp (op.Write at bytes) = Unit {0}
UseOp (op.Cut len) = Unit {0}
UseOp op.Commit = Unit {0}
UseOp op.Abort = Unit {0}
UseOp _ = ⊥

-- and by no call but one that uses a descriptor
abbrev pub NoWalk : Op → Type 0
NoWalk (op.Cut len) = Unit {0}
NoWalk op.Commit = Unit {0}
NoWalk op.Abort = Unit {0}
NoWalk _ = ⊥

use_op : (words : Call) (o : Op) → IsUse words o → UseOp o
use_op (call.Read fd at len) o u = subst UseOp (sym u) tt
use_op (call.Write fd at bytes) o u = subst UseOp (sym u) tt
use_op (call.Cut fd len) o u = subst UseOp (sym u) tt
use_op (call.Commit fd) o u = subst UseOp (sym u) tt
use_op (call.Abort fd) o u = subst UseOp (sym u) tt
use_op _ o u = absurd u

read_op : (i : Serial) (o : Op) → RereaderAsks (want.Do i o) → UseOp o
read_op i (op.Read at len) r = tt
read_op i _ r = absurd r

-- who began at an instance asks a use
used_so : (mounts : List Mount) (free : Option ℕ) (words : Call) (e : EpochId) (j : Serial) (xs : Answers) (i : Serial) (o : Op) → named_wants mounts free words (begins.Uses e j) xs ≡ want.Do i o → UseOp o
used_so mounts free words e j xs i o k = over (is_badly_named mounts words) k
  where
    refused : want.Give (reply.No refusal.BadName) ≡ want.Do i o → ⊥
    refused q = cc

    over : (x : Bool) → cond x (want.Give (reply.No refusal.BadName)) (uses_wants words j xs) ≡ want.Do i o → UseOp o
    over true q = absurd (refused q)
    over false q = use_op words o (use_so words j i o xs q).1

-- ---- what a call asks now ----

module _ (c : Config) (t : List Line) (h : IsFollowed c t) (e : EpochId) (d : CallId) (inside : IsCallIn (entries t) e d) (i : Serial) (o : Op) (asks : Asks c t d (want.Do i o)) (x : Instance) (found : instance_now c t e i ≡ Some x) where
  abbrev pub w : Waiting
  w = inside.accepted

  pub starts : Began t d w
  starts = began t d w inside.named

  abbrev pub b : Beginning
  b = beginning starts.table w.epoch d w.words

  abbrev pk : ℕ → Bool
  pk = is_packed_in c (entries t) w.epoch

  -- by its words
  pub by_words : (xs : Answers) → script c (entries t) d None xs ≡ script_as c (entries t) (Some w) (Some b) None xs
  by_words xs = ap (λ (o : Option Waiting). script_as c (entries t) o (begun (entries t) d) None xs) inside.named ∙ ap (λ (o : Option Beginning). script_as c (entries t) (Some w) o None xs) starts.begun_is

  asked : script_as c (entries t) (Some w) (Some b) None (log t d) ≡ want.Do i o
  asked = sym (by_words (log t d)) ∙ asks.asked

  wanted : named_wants c.mounts None w.words b (log t d) ≡ want.Do i o
  wanted = unpacked pk (named_wants c.mounts None w.words b (log t d)) i o asked

  -- it walks, or uses a descriptor
  pub so : AskedBy d w.words b i o
  so = named_so c.mounts None d w.words b (walks_as starts.table w.epoch d w.words) (log t d) i o wanted

  -- what it uses by a descriptor is of its epoch
  pub uses_here : (u : Uses w.words b i o) → begun (entries t) d ≡ Some (begins.Uses e i)
  uses_here u = starts.begun_is ∙ ap Some (u.begins_so ∙ ap (λ (z : EpochId). begins.Uses z i) (some_same u.epoch e (sym (uses_from starts.table w.epoch _ w.words u.epoch i u.begins_so).inside ∙ inside.made_in)))

  -- a call that walks has the instance as it was granted to it
  pub own : (UseOp o → ⊥) → granted_to (entries t) e i ≡ Some d
  own other = over (comes_from c t h e d i inside (op_had c t d i o h (inside.accepted, inside.named) asks.asked))
    where
      uses : begun (entries t) d ≡ Some (begins.Uses e i) → AskedBy d w.words b i o → ⊥
      uses k (inr (inl u)) = other (use_op w.words o u.is_use)
      uses k (inr (inr r)) = other (read_op i o r)
      uses k (inl walks) = other (used_so c.mounts None w.words e i (log t d) i o (subst (λ (z : Beginning). named_wants c.mounts None w.words z (log t d) ≡ want.Do i o) (some_same b (begins.Uses e i) (sym starts.begun_is ∙ k)) wanted))

      over : (granted_to (entries t) e i ≡ Some d) ⊎ (begun (entries t) d ≡ Some (begins.Uses e i)) → granted_to (entries t) e i ≡ Some d
      over (inl k) = k
      over (inr k) = absurd (uses k so)

  -- a use of a descriptor, where no walk asks so
  pub used : NoWalk o → Uses w.words b i o
  used use_it = over so
    where
      walks : (p : Op) → NoWalk p → WalkAsks d w.words (want.Do i p) → ⊥
      walks (op.Cut len) k q = q
      walks op.Commit k q = q
      walks op.Abort k q = q
      walks _ k q = k

      reads : (p : Op) → NoWalk p → RereaderAsks (want.Do i p) → ⊥
      reads (op.Read at len) k q = k
      reads _ k q = q

      over : AskedBy d w.words b i o → Uses w.words b i o
      over (inl q) = absurd (walks o use_it q)
      over (inr (inl u)) = u
      over (inr (inr r)) = absurd (reads o use_it r)

  -- or a step of a walk
  pub walked : (UseOp o → ⊥) → WalkAsks d w.words (want.Do i o)
  walked other = over so
    where
      over : AskedBy d w.words b i o → WalkAsks d w.words (want.Do i o)
      over (inl q) = q
      over (inr (inl u)) = absurd (other (use_op w.words o u.is_use))
      over (inr (inr r)) = absurd (other (read_op i o r))
