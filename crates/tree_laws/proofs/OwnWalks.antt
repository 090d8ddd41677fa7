-- A call that walks began under its own name.
use Rattle.std.proofs.Common.{◌≡◌, ℕ, Bool, true, false, cond, [], ◌∷◌, Option, Some, None, refl, subst, ap, ◌∙◌}
use Rattle.locus_ids.specs.declared.ids.CallId.{CallId}
use Rattle.locus_ids.specs.declared.ids.EpochId.{EpochId}
use Rattle.locus_ids.specs.declared.refusal.Refusal.TheVariants as refusal
use Rattle.trace_book.specs.Same.{same_call}
use Rattle.trace_book.specs.declared.call.Call.{Call}
use Rattle.trace_book.specs.declared.call.Call.TheVariants as call
use Rattle.trace_book.specs.declared.descriptor.Beginning.{Beginning}
use Rattle.trace_book.specs.declared.descriptor.Beginning.TheVariants as begins
use Rattle.trace_book.specs.declared.descriptor.Descriptor.{Descriptor}
use Rattle.trace_book.specs.declared.descriptor.OneVersion.{OneVersion}
use Rattle.trace_book.specs.declared.record.Record.{Record}
use Rattle.trace_book.specs.declared.record.Record.TheVariants as says
use Rattle.call_rules.specs.Descriptors.{beginning, begins_again, begins_change, begins_close, begins_open, begins_read, begins_walk, held_or, is_in, lowest_free, stale_or}
use Rattle.call_rules.specs.Words.{is_too_long}
use Rattle.commit_graph.specs.Grants.{is_read}
use Rattle.lawful_trace.specs.of_tree_model.Epochs.{epoch_of}
use Rattle.lawful_trace.specs.of_tree_model.Folds.{Trace}
use Rattle.lawful_trace.specs.Tables.{begins_now, begun, begun_after, descriptor}
use Rattle.tree_laws.proofs.Names.{same_call_eq}

-- the call walks under this name, if it walks
abbrev pub WalksAs : CallId → Beginning → Type 0
WalksAs d (begins.Walks x) = x ≡ d
WalksAs d _ = Unit {0}

held_own : (d : CallId) (now : Option EpochId) (x : Descriptor) (otherwise : Beginning) → WalksAs d otherwise → WalksAs d (held_or now x otherwise)
held_own d now x otherwise k = over (is_in now x.epoch)
  where
    over : (b : Bool) → WalksAs d (cond b (begins.Uses x.epoch x.inst) otherwise)
    over true = tt
    over false = k

stale_own : (d : CallId) (steady : OneVersion → Beginning) (last : EpochId) (o : Option OneVersion) → ((v : OneVersion) → WalksAs d (steady v)) → WalksAs d (stale_or steady last o)
stale_own d steady last None k = tt
stale_own d steady last (Some v) k = k v

again_own : (d : CallId) (now : Option EpochId) (last : EpochId) (v : OneVersion) → WalksAs d (begins_again now last v)
again_own d None last v = tt
again_own d (Some e) last v = tt

read_own : (d : CallId) (now : Option EpochId) (o : Option Descriptor) → WalksAs d (begins_read now o)
read_own d now None = tt
read_own d now (Some x) = held_own d now x (stale_or (begins_again now x.epoch) x.epoch x.steady) (stale_own d (begins_again now x.epoch) x.epoch x.steady (λ v. again_own d now x.epoch v))

close_own : (d : CallId) (now : Option EpochId) (o : Option Descriptor) → WalksAs d (begins_close now o)
close_own d now None = tt
close_own d now (Some x) = held_own d now x (stale_or (λ v. begins.Frees) x.epoch x.steady) (stale_own d (λ v. begins.Frees) x.epoch x.steady (λ v. tt))

change_own : (d : CallId) (now : Option EpochId) (o : Option Descriptor) → WalksAs d (begins_change now o)
change_own d now None = tt
change_own d now (Some x) = by x.steady refl
  where
    at : x.steady ≡ None → (a b : Bool) → is_in now x.epoch ≡ a → is_read x.mode ≡ b → WalksAs d (begins_change now (Some x))
    at s true true p q = rw s (rw p (rw q tt))
    at s true false p q = rw s (rw p (rw q tt))
    at s false b p q = rw s (rw p tt)

    by : (o : Option OneVersion) → x.steady ≡ o → WalksAs d (begins_change now (Some x))
    by None s = at s (is_in now x.epoch) (is_read x.mode) refl refl
    by (Some v) s = rw s tt

walk_own : (d : CallId) (now : Option EpochId) → WalksAs d (begins_walk now d)
walk_own d None = tt
walk_own d (Some e) = refl

open_own : (d : CallId) (now : Option EpochId) (free : Option ℕ) → WalksAs d (begins_open now d free)
open_own d now None = tt
open_own d now (Some fd) = walk_own d now

pub walks_as : (table : ℕ → Option Descriptor) (now : Option EpochId) (d : CallId) (words : Call) → WalksAs d (beginning table now d words)
walks_as table now d (call.Open path mode) = open_own d now (lowest_free table)
walks_as table now d (call.Read fd at len) = read_own d now (table fd)
walks_as table now d (call.Write fd at bytes) = over (is_too_long (call.Write fd at bytes))
  where
    over : (b : Bool) → WalksAs d (cond b (begins.Denied refusal.TooLong) (begins_change now (table fd)))
    over true = tt
    over false = change_own d now (table fd)
walks_as table now d (call.Cut fd len) = change_own d now (table fd)
walks_as table now d (call.Commit fd) = change_own d now (table fd)
walks_as table now d (call.Abort fd) = change_own d now (table fd)
walks_as table now d (call.Close fd) = close_own d now (table fd)
walks_as table now d (call.Create path sites) = walk_own d now
walks_as table now d (call.MakeDir path) = walk_own d now
walks_as table now d (call.Unlink path) = walk_own d now
walks_as table now d (call.RemoveDir path) = walk_own d now
walks_as table now d (call.Rename path name) = walk_own d now
walks_as table now d (call.List path) = walk_own d now
walks_as table now d (call.Stat path) = walk_own d now
walks_as table now d (call.Mail path bytes) = walk_own d now
walks_as table now d (call.Mails path) = walk_own d now
walks_as table now d (call.Mend file) = walk_own d now

-- what a call of this name begins with is a walk under its name, if it is a walk
pub walks_own : (table : ℕ → Option Descriptor) (now : Option EpochId) (d : CallId) (words : Call) (x : CallId) → beginning table now d words ≡ begins.Walks x → x ≡ d
walks_own table now d words x e = subst (WalksAs d) e (walks_as table now d words)

-- so it is in each trace
pub begun_own : (before : Trace) (d x : CallId) → begun before d ≡ Some (begins.Walks x) → begun before d ≡ Some (begins.Walks d)
begun_own before d x e = e ∙ ap (λ (y : CallId). Some (begins.Walks y)) (named before d x e)
  where
    some_same : (a b : Beginning) → Some a ≡ Some b → a ≡ b
    some_same a b e = cc

    none_some : (b : Beginning) → ◌≡◌ {A = Option Beginning} None (Some b) → ⊥
    none_some b e = cc

    named : (before : Trace) (d x : CallId) → begun before d ≡ Some (begins.Walks x) → x ≡ d
    named [] d x e = absurd (none_some (begins.Walks x) e)
    named (r ∷ older) d x e = at r.what (named older d x) e
      where
        at : (y : Record) → (begun older d ≡ Some (begins.Walks x) → x ≡ d) → begun_after y older d (begun older d) ≡ Some (begins.Walks x) → x ≡ d
        at (says.Accept s process new words) later = over (same_call new d) refl
          where
            over : (b : Bool) → same_call new d ≡ b → cond b (Some (begins_now older s process new words)) (begun older d) ≡ Some (begins.Walks x) → x ≡ d
            over true q k = walks_own (descriptor older s process) (epoch_of older s) new words x (some_same (begins_now older s process new words) (begins.Walks x) k) ∙ same_call_eq new d q
            over false q k = later k
        at _ later = later
