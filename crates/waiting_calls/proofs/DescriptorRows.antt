-- A descriptor that a reply puts into the table.
use Rattle.std.proofs.Common.{◌≡◌, ℕ, List, Some, sym, ap, ◌∙◌, Ok, Err}
use Rattle.std.specs.declared.result.Result.{Result}
use Rattle.std.specs.Prelude.{OnOk}
use Rattle.locus_ids.specs.declared.ids.EpochId.{EpochId}
use Rattle.trace_book.specs.declared.call.Call.{Call}
use Rattle.trace_book.specs.declared.call.Call.TheVariants as call
use Rattle.trace_book.specs.declared.descriptor.Beginning.{Beginning}
use Rattle.trace_book.specs.declared.descriptor.Beginning.TheVariants as begins
use Rattle.trace_book.specs.declared.descriptor.OneVersion.{OneVersion}
use Rattle.role_steps.specs.Tables.{with_row}
use Rattle.role_steps.specs.Using.{holds_again, opened_row}
use Rattle.role_steps.specs.Views.{Frame, Users}
use Rattle.role_steps.specs.Requests.{descriptor_key, with_descriptor}
use Rattle.role_steps.specs.declared.users.DescriptorRow.{DescriptorRow}
use Rattle.role_steps.specs.declared.users.WaitingCall.{WaitingCall}

pub on_ok : {A E : Type 0} {P Q : Type 0} (r : Result A E) → (P → Q) → OnOk r P → OnOk r Q
on_ok (Ok x) f h = f h
on_ok (Err e) f h = tt

pub put_row : (u u' : Users) (rows : List DescriptorRow) (r r' : DescriptorRow) → u ≡ u' → r ≡ r' → rows ≡ with_row descriptor_key r u.descriptors → record u { descriptors = rows } ≡ with_descriptor r' u'
put_row u u' rows r r' e f g =
    ap (λ (ds : List DescriptorRow). record u { descriptors = ds }) (g ∙ ap (λ (x : DescriptorRow). with_row descriptor_key x u.descriptors) f) ∙ ap (with_descriptor r') e

-- the descriptor of a read that has opened a version again
pub held_so : (f : Frame) (w : WaitingCall) (b : Beginning) (words : Call) (version : OneVersion) (last : EpochId) (fd at len : ℕ) (u : Users) → b ≡ begins.Reopens version last → words ≡ call.Read fd at len → with_descriptor (opened_row f w fd (Some version)) u ≡ holds_again f w b words u
held_so f w b words version last fd at len u e h =
    sym (ap (λ (x : Beginning). holds_again f w x words u) e ∙ ap (λ (y : Call). holds_again f w (begins.Reopens version last) y u) h)
