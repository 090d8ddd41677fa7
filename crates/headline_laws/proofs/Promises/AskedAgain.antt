-- A read that opens a version again has an instance that was granted to be read.
use Rattle.std.proofs.Common.{◌≡◌, ℕ, Bool, true, false, List, Option, Some, None, refl, sym, ◌∙◌, ap, subst, ◌⊎◌, inl, inr}
use Rattle.role_steps.proofs.of_plain_facts.Options.{some_same}
use Rattle.role_steps.proofs.of_plain_facts.Tests.{true_false}
use Rattle.locus_ids.specs.declared.config.Config.{Config}
use Rattle.locus_ids.specs.declared.ids.CallId.{CallId}
use Rattle.locus_ids.specs.declared.ids.EpochId.{EpochId}
use Rattle.locus_ids.specs.declared.ids.FileId.{FileId}
use Rattle.locus_ids.specs.declared.ids.Mode.{Mode}
use Rattle.locus_ids.specs.declared.ids.Mode.TheVariants as mode
use Rattle.locus_ids.specs.declared.ids.Serial.{Serial}
use Rattle.commit_graph.specs.Grants.{is_read}
use Rattle.trace_book.specs.declared.call.Call.{Call}
use Rattle.trace_book.specs.declared.call.Call.TheVariants as call
use Rattle.trace_book.specs.declared.call.OpenMode.TheVariants as how
use Rattle.trace_book.specs.declared.descriptor.Beginning.TheVariants as begins
use Rattle.trace_book.specs.declared.descriptor.OneVersion.{OneVersion}
use Rattle.call_rules.specs.Scripts.{wants}
use Rattle.call_rules.specs.declared.want.Want.{Want}
use Rattle.call_rules.specs.declared.want.Want.TheVariants as want
use Rattle.the_run.specs.Worlds.{Line}
use Rattle.tree_model.specs.declared.instance.Instance.{Instance}
use Rattle.tree_model.specs.Calls.{granted_to}
use Rattle.lawful_trace.specs.Progress.{is_packed_in}
use Rattle.lawful_trace.specs.Tables.{begun}
use Rattle.lawful_trace.specs.TreeRows.{IsCallIn, is_open_of}
use Rattle.tree_laws.specs.Following.{IsFollowed}
use Rattle.tree_laws.specs.Holding.{has_instances}
use Rattle.tree_laws.specs.Instances.{instance_now}
use Rattle.tree_laws.specs.Printed.{entries}
use Rattle.tree_laws.proofs.Orders.ProcessBegun.{comes_from}
use Rattle.tree_laws.proofs.Orders.ProcessGranting.{GrantIs, granted_is}
use Rattle.calm_laws.proofs.of_store_laws.OneTree.RemovePlaced.{GrantedSo, Placed, granted_placed}
use Rattle.calm_laws.proofs.of_store_laws.Places.{open_is}
use Rattle.calm_laws.proofs.of_store_laws.ScriptFitted.{began_right}
use Rattle.calm_laws.proofs.of_store_laws.ScriptLasting.{OpensSo}
use Rattle.calm_laws.proofs.of_store_laws.ScriptNaming.{Rereads, rereads_so, script_by}
use Rattle.calm_laws.proofs.of_store_laws.ScriptReopening.{read_so}

-- what is opened to be read is granted so
reads_mode : (m : Mode) (f : FileId) (w : Want) → is_open_of m f w ≡ true → OpensSo how.Read w → is_read m ≡ true
reads_mode mode.Read f w e k = refl
reads_mode mode.Write f (want.Open g how.Write) e k = cc
reads_mode mode.Write f _ e k = absurd (true_false (sym e))
reads_mode mode.Resolve f (want.Open g (how.Resolve site)) e k = cc
reads_mode mode.Resolve f _ e k = absurd (true_false (sym e))
reads_mode mode.Mend f (want.OpenToMend g) e k = absurd k
reads_mode mode.Mend f _ e k = absurd (true_false (sym e))
reads_mode mode.Make f (want.Make group kind sites) e k = absurd k
reads_mode mode.Make f _ e k = absurd (true_false (sym e))

uses_again : (e last : EpochId) (i : Serial) (kept : OneVersion) → begins.Uses e i ≡ begins.Reopens kept last → ⊥
uses_again e last i kept k = cc

pub again_reads : (c : Config) (t : List Line) → IsFollowed c t → (e : EpochId) (d : CallId) (inside : IsCallIn (entries t) e d) (i : Serial) → has_instances c t d i ≡ true → (kept : OneVersion) (last : EpochId) → begun (entries t) d ≡ Some (begins.Reopens kept last) → (x : Instance) → instance_now c t e i ≡ Some x → is_read x.grant.mode ≡ true
again_reads c t h e d inside i has kept last starts x found = over (comes_from c t h e d i inside has)
  where
    over : (granted_to (entries t) e i ≡ Some d) ⊎ (begun (entries t) d ≡ Some (begins.Uses e i)) → is_read x.grant.mode ≡ true
    over (inr uses) = absurd (uses_again e last i kept (some_same (begins.Uses e i) (begins.Reopens kept last) (sym uses ∙ starts)))
    over (inl granted) = subst (λ (m : Mode). is_read m ≡ true) (sym is.0) (reads_mode k.mode k.file placed.asked placed.fits.0 opens)
      where
        k : GrantIs t e i d
        k = granted_is c t h e i d granted

        is : (x.grant.mode ≡ k.mode) × (x.grant.file ≡ k.file) × (x.grant.ss ≡ k.place) × (x.grant.call ≡ d)
        is = open_is c t h e d k.request i k.mode k.file k.stamp k.place x k.was_granted found

        placed : Placed c t d (GrantedSo k.mode k.file i)
        placed = granted_placed c t h e d k.request i k.mode k.file k.stamp k.place k.was_granted

        r : Rereads inside.accepted.words (begins.Reopens kept last)
        r = rereads_so inside.accepted.words kept last (began_right t d inside.accepted (begins.Reopens kept last) inside.named starts)

        pk : ℕ → Bool
        pk = is_packed_in c (entries t) inside.accepted.epoch

        opens : OpensSo how.Read placed.asked
        opens = subst (OpensSo how.Read) (sym (ap (λ (y : Call). wants c.mounts pk None y (begins.Reopens kept last) placed.before) r.words_are) ∙ (sym (script_by c t d inside.accepted (begins.Reopens kept last) None placed.before inside.named starts) ∙ placed.script_is))
            (read_so c.mounts pk None r.fd r.at r.len kept last placed.before)
