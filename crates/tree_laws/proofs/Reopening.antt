-- A call that begins by opening a version again is a read by a steady descriptor, which keeps this version.
use Rattle.std.proofs.Common.{◌≡◌, ℕ, Bool, true, false, cond, Option, Some, None, refl, ◌∙◌, ap}
use Rattle.locus_ids.specs.declared.ids.CallId.{CallId}
use Rattle.locus_ids.specs.declared.ids.EpochId.{EpochId}
use Rattle.locus_ids.specs.declared.refusal.Refusal.{Refusal}
use Rattle.locus_ids.specs.declared.refusal.Refusal.TheVariants as refusal
use Rattle.locus_ids.specs.declared.ids.Serial.{Serial}
use Rattle.commit_graph.specs.Grants.{is_read}
use Rattle.trace_book.specs.declared.call.Call.{Call}
use Rattle.trace_book.specs.declared.call.Call.TheVariants as call
use Rattle.trace_book.specs.declared.descriptor.Beginning.TheVariants as begins
use Rattle.trace_book.specs.declared.descriptor.Descriptor.{Descriptor}
use Rattle.trace_book.specs.declared.descriptor.OneVersion.{OneVersion}
use Rattle.call_rules.specs.Descriptors.{beginning, begins_again, begins_change, begins_close, begins_open, begins_read, begins_walk, is_in, lowest_free, stale_or}
use Rattle.call_rules.specs.Words.{is_too_long}

-- the descriptor of this number keeps the version, and was held last in this epoch
pub record FromSteady (table : ℕ → Option Descriptor) (words : Call) (v : OneVersion) (last : EpochId) : Type 0 where
  pub fd : ℕ
  pub at : ℕ
  pub len : ℕ
  pub words_are : words ≡ call.Read fd at len
  pub stands : Descriptor
  pub found : table fd ≡ Some stands
  pub keeps : stands.steady ≡ Some v
  pub epoch_is : stands.epoch ≡ last

module _ (v : OneVersion) (last : EpochId) where
  denied_again : (why : Refusal) → begins.Denied why ≡ begins.Reopens v last → ⊥
  denied_again why k = cc

  uses_again : (e : EpochId) (i : Serial) → begins.Uses e i ≡ begins.Reopens v last → ⊥
  uses_again e i k = cc

  frees_again : begins.Frees ≡ begins.Reopens v last → ⊥
  frees_again k = cc

  walk_again : (id : CallId) (now : Option EpochId) → begins_walk now id ≡ begins.Reopens v last → ⊥
  walk_again id None k = cc
  walk_again id (Some at) k = cc

  open_again : (id : CallId) (now : Option EpochId) (free : Option ℕ) → begins_open now id free ≡ begins.Reopens v last → ⊥
  open_again id now None k = cc
  open_again id now (Some fd) k = walk_again id now k

  again_version : (w : OneVersion) (at : EpochId) → begins.Reopens w at ≡ begins.Reopens v last → w ≡ v
  again_version w at k = cc

  again_epoch : (w : OneVersion) (at : EpochId) → begins.Reopens w at ≡ begins.Reopens v last → at ≡ last
  again_epoch w at k = cc

  again_is : (now : Option EpochId) (at : EpochId) (w : OneVersion) → begins_again now at w ≡ begins.Reopens v last → (w ≡ v) × (at ≡ last)
  again_is None at w k = absurd (denied_again _ k)
  again_is (Some e) at w k = (again_version w at k, again_epoch w at k)

  close_again : (now : Option EpochId) (o : Option Descriptor) → begins_close now o ≡ begins.Reopens v last → ⊥
  close_again now None k = denied_again _ k
  close_again now (Some x) k = over (is_in now x.epoch) x.steady k
    where
      over : (b : Bool) (o : Option OneVersion) → cond b (begins.Uses x.epoch x.inst) (stale_or (λ w. begins.Frees) x.epoch o) ≡ begins.Reopens v last → ⊥
      over true o m = uses_again x.epoch x.inst m
      over false None m = denied_again _ m
      over false (Some w) m = frees_again m

  change_again : (now : Option EpochId) (o : Option Descriptor) → begins_change now o ≡ begins.Reopens v last → ⊥
  change_again now None k = denied_again _ k
  change_again now (Some x) k = by x.steady refl
    where
      at : x.steady ≡ None → (a b : Bool) → is_in now x.epoch ≡ a → is_read x.mode ≡ b → ⊥
      at s true true p q = denied_again _ (rw q at (rw p at (rw s at k)))
      at s true false p q = uses_again x.epoch x.inst (rw q at (rw p at (rw s at k)))
      at s false b p q = denied_again _ (rw p at (rw s at k))

      by : (o : Option OneVersion) → x.steady ≡ o → ⊥
      by None s = at s (is_in now x.epoch) (is_read x.mode) refl refl
      by (Some w) s = denied_again _ (rw s at k)

  read_again : (table : ℕ → Option Descriptor) (now : Option EpochId) (fd at len : ℕ) (o : Option Descriptor) → table fd ≡ o → begins_read now o ≡ begins.Reopens v last → FromSteady table (call.Read fd at len) v last
  read_again table now fd at len None is k = absurd (denied_again _ k)
  read_again table now fd at len (Some x) is k = over (is_in now x.epoch) x.steady refl k
    where
      over : (b : Bool) (o : Option OneVersion) → x.steady ≡ o → cond b (begins.Uses x.epoch x.inst) (stale_or (begins_again now x.epoch) x.epoch o) ≡ begins.Reopens v last → FromSteady table (call.Read fd at len) v last
      over true o s m = absurd (uses_again x.epoch x.inst m)
      over false None s m = absurd (denied_again _ m)
      over false (Some w) s m = (let both : (w ≡ v) × (x.epoch ≡ last) = again_is now x.epoch w m in
          record { fd = fd; at = at; len = len; words_are = refl; stands = x; found = is; keeps = s ∙ ap Some both.0; epoch_is = both.1 })

  pub reopens_from : (table : ℕ → Option Descriptor) (now : Option EpochId) (id : CallId) (words : Call) → beginning table now id words ≡ begins.Reopens v last → FromSteady table words v last
  reopens_from table now id (call.Read fd at len) k = read_again table now fd at len (table fd) refl k
  reopens_from table now id (call.Open path mode) k = absurd (open_again id now (lowest_free table) k)
  reopens_from table now id (call.Write fd at bytes) k = over (is_too_long (call.Write fd at bytes)) k
    where
      over : (b : Bool) → cond b (begins.Denied refusal.TooLong) (begins_change now (table fd)) ≡ begins.Reopens v last → FromSteady table (call.Write fd at bytes) v last
      over true m = absurd (denied_again _ m)
      over false m = absurd (change_again now (table fd) m)
  reopens_from table now id (call.Cut fd len) k = absurd (change_again now (table fd) k)
  reopens_from table now id (call.Commit fd) k = absurd (change_again now (table fd) k)
  reopens_from table now id (call.Abort fd) k = absurd (change_again now (table fd) k)
  reopens_from table now id (call.Close fd) k = absurd (close_again now (table fd) k)
  reopens_from table now id (call.Create path sites) k = absurd (walk_again id now k)
  reopens_from table now id (call.MakeDir path) k = absurd (walk_again id now k)
  reopens_from table now id (call.Unlink path) k = absurd (walk_again id now k)
  reopens_from table now id (call.RemoveDir path) k = absurd (walk_again id now k)
  reopens_from table now id (call.Rename path name) k = absurd (walk_again id now k)
  reopens_from table now id (call.List path) k = absurd (walk_again id now k)
  reopens_from table now id (call.Stat path) k = absurd (walk_again id now k)
  reopens_from table now id (call.Mail path bytes) k = absurd (walk_again id now k)
  reopens_from table now id (call.Mails path) k = absurd (walk_again id now k)
  reopens_from table now id (call.Mend file) k = absurd (walk_again id now k)
