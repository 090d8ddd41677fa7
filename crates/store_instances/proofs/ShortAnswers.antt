-- What a read gives whose asker has the bytes: it is told as any read, and answered in its own form.
use Rattle.std.proofs.Common.{◌≡◌, ℕ, Bool, true, false, List, [], ◌++◌, cond, Some, None, refl, subst}
use Rattle.wire_messages.specs.declared.packet.Packet.{Packet}
use Rattle.wire_messages.specs.Outboxes.{Outgoing}
use Rattle.role_steps.specs.of_commit_graph.Grants.{is_read}
use Rattle.role_steps.specs.Views.{Frame, Store, quiet, sends}
use Rattle.role_steps.specs.Operations.{in_form, op_again, sent_in_form}
use Rattle.role_steps.specs.declared.instances.Instance.{Instance}
use Rattle.site_packs.specs.Packs.{PacksState}
use Rattle.store_instances.specs.Stores.{IsRow, RowGives, StoreState, store_of}
use Rattle.store_instances.proofs.Given.{quiet_so, sends_so}

-- nothing sent is nothing in each form
pub none_in_form : (i : Instance) → ◌≡◌ {A = List Packet} [] (sent_in_form i [])
none_in_form i = by (is_read i.mode) where
  by : (b : Bool) → ◌≡◌ {A = List Packet} [] (cond b [] [])
  by true = refl
  by false = refl

-- ---- what it gives ----

module _ (r : StoreState) (p : PacksState) (image : List ℕ) where
  abbrev s : Store
  s = store_of r p image

  pub quiet_held : (i new : Instance) (before after : Outgoing) → IsRow i r.instances → new ≡ i → after ≡ before → RowGives (in_form (Some i) (quiet s)) r None new p image before after
  quiet_held i new before after h e o =
      subst (λ (ps : List Packet). RowGives (record { view = s; sent = ps; told = []; written = None }) r None new p image before after) (none_in_form i) (quiet_so r p image i new before after h e o)

  pub again_held : (f : Frame) (i : Instance) (n : ℕ) (before after : Outgoing) → IsRow i r.instances → after.packets ≡ before.packets ++ sent_in_form i (op_again f i n i.answered) → after.records ≡ before.records
      → RowGives (in_form (Some i) (sends (op_again f i n i.answered) s)) r None i p image before after
  again_held f i n before after h sent told = sends_so r p image (sent_in_form i (op_again f i n i.answered)) i i before after h refl sent told
