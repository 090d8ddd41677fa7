-- What a copy serves, by what its head says.
use Rattle.std.proofs.Common.{◌≡◌, ℕ, Bool, true, false, List, [], ◌∷◌, ◌++◌, length, Option, Some, None, refl, sym, ap, ◌∙◌}
use Rattle.std.specs.Prelude.{cond}
use Rattle.std.specs.Option.{option_map}
use Rattle.locus_ids.specs.declared.ids.FileId.{FileId}
use Rattle.locus_ids.specs.declared.ids.Stamp.{Stamp}
use Rattle.commit_graph.specs.Versions.{same_stamp}
use Rattle.file_content.specs.Pages.{page_of, pages_of}
use Rattle.trace_book.specs.declared.operation.What.{What}
use Rattle.wire_messages.specs.declared.packet.Packet.{Packet}
use Rattle.wire_messages.specs.declared.body.Body.TheVariants as body
use Rattle.wire_messages.specs.declared.body.LookAnswer.TheVariants as answer
use Rattle.wire_messages.specs.declared.body.ReportedCopy.{ReportedCopy}
use Rattle.wire_messages.specs.Outboxes.{Outgoing}
use Rattle.role_steps.specs.Views.{Frame, Store, sends, packet}
use Rattle.role_steps.specs.Storage.{content_of, delta_of, pages_since, pulled_page, reported, served_content, served_copy, steps_of, wanted_delta}
use Rattle.role_steps.specs.declared.copies.FileCopy.{FileCopy}
use Rattle.store_instances.specs.Stores.{Gives}
use Rattle.storage_site.specs.Serving.{has_page_of, head_page}
use Rattle.store_instances.proofs.Latest.{nothing_more}

head_is : (c : ReportedCopy) (x : FileCopy) → ◌≡◌ {A = Option ReportedCopy} (Some c) (Some (reported x)) → c ≡ reported x
head_is c x e = inner c (reported x) e where
  inner : {A : Type 0} (a b : A) → ◌≡◌ {A = Option A} (Some a) (Some b) → a ≡ b
  inner a b h = cc

pub served_none : (w : What) (stamp : Stamp) (x : Option FileCopy) → None ≡ option_map reported x → answer.Moved ≡ served_copy w stamp x
served_none w stamp None e = refl
served_none w stamp (Some x) e = absurd cc

by_stamp : (w : What) (content : List ℕ) (b : Bool) → b ≡ false → answer.Moved ≡ elim b [ true ↦ served_content w content | false ↦ answer.Moved ]
by_stamp w content false h = refl
by_stamp w content true h = absurd cc

by_same : (w : What) (content : List ℕ) (b : Bool) → b ≡ true → served_content w content ≡ elim b [ true ↦ served_content w content | false ↦ answer.Moved ]
by_same w content true h = refl
by_same w content false h = absurd cc

pub served_other : (w : What) (stamp : Stamp) (x : Option FileCopy) (c : ReportedCopy) → Some c ≡ option_map reported x → same_stamp c.stamp stamp ≡ false → answer.Moved ≡ served_copy w stamp x
served_other w stamp None c e h = absurd cc
served_other w stamp (Some x) c e h = by_stamp w x.content (same_stamp x.stamp stamp) (ap (λ (one : ReportedCopy). same_stamp one.stamp stamp) (sym (head_is c x e)) ∙ h)

pub served_same : (w : What) (stamp : Stamp) (x : Option FileCopy) (c : ReportedCopy) → Some c ≡ option_map reported x → same_stamp c.stamp stamp ≡ true → served_content w (content_of x) ≡ served_copy w stamp x
served_same w stamp None c e h = absurd cc
served_same w stamp (Some x) c e h = by_same w x.content (same_stamp x.stamp stamp) (ap (λ (one : ReportedCopy). same_stamp one.stamp stamp) (sym (head_is c x e)) ∙ h)

pub page_as : (stamp : Stamp) (page : ℕ) (x : Option FileCopy) (head : Option ReportedCopy) → head ≡ option_map reported x → head_page stamp page head ≡ has_page_of stamp page x
page_as stamp page x head e = ap (head_page stamp page) e ∙ of_copy x where
  of_copy : (one : Option FileCopy) → head_page stamp page (option_map reported one) ≡ has_page_of stamp page one
  of_copy None = refl
  of_copy (Some y) = refl

module _ (f : Frame) (from : ℕ) (file : FileId) (stamp : Stamp) (page : ℕ) where
  abbrev pub one_page : List ℕ → List Packet
  one_page content = packet f from (body.Page file stamp page (page_of content page)) ∷ []

  pub pulled_not : (x : Option FileCopy) → has_page_of stamp page x ≡ false → [] ≡ pulled_page f from file stamp page x
  pulled_not None h = refl
  pulled_not (Some x) h = ap (λ (b : Bool). cond b (one_page x.content) []) (sym h)

  pub pulled_yes : (x : Option FileCopy) → has_page_of stamp page x ≡ true → packet f from (body.Page file stamp page (page_of (content_of x) page)) ∷ [] ≡ pulled_page f from file stamp page x
  pulled_yes None h = absurd cc
  pulled_yes (Some x) h = ap (λ (b : Bool). cond b (one_page x.content) []) (sym h)

-- a delta, by the steps that are remembered
module _ (f : Frame) (from : ℕ) (file : FileId) (wanted own : Stamp) (s : Store) where
  abbrev pub written_since : Option (List ℕ)
  written_since = pages_since own wanted (steps_of file s.steps)

  abbrev pub delta_packet : List ℕ → List Packet
  delta_packet pages = packet f from (body.Delta file wanted pages) ∷ []

  abbrev delta_if : FileCopy → Bool → List Packet
  delta_if x b = cond b (delta_packet (delta_of (pages_of (length x.content)) written_since)) []

  pub no_delta : (x : Option FileCopy) → None ≡ option_map reported x → [] ≡ wanted_delta f from file wanted own s x
  no_delta None e = refl
  no_delta (Some x) e = absurd cc

  pub other_delta : (x : Option FileCopy) (c : ReportedCopy) → Some c ≡ option_map reported x → same_stamp c.stamp wanted ≡ false → [] ≡ wanted_delta f from file wanted own s x
  other_delta None c e h = absurd cc
  other_delta (Some x) c e h = ap (delta_if x) (sym (ap (λ (one : ReportedCopy). same_stamp one.stamp wanted) (sym (head_is c x e)) ∙ h))

  pub this_delta : (x : Option FileCopy) (c : ReportedCopy) → Some c ≡ option_map reported x → same_stamp c.stamp wanted ≡ true → delta_packet (delta_of (pages_of c.size) written_since) ≡ wanted_delta f from file wanted own s x
  this_delta None c e h = absurd cc
  this_delta (Some x) c e h =
      ap (λ (one : ReportedCopy). delta_packet (delta_of (pages_of one.size) written_since)) (head_is c x e)
      ∙ ap (delta_if x) (sym (ap (λ (one : ReportedCopy). same_stamp one.stamp wanted) (sym (head_is c x e)) ∙ h))

-- a store that only sends
pub sends_store : (ps : List Packet) (s now : Store) (before after : Outgoing) → now ≡ s → after.packets ≡ before.packets ++ ps → after.records ≡ before.records → Gives (sends ps s) now before after
sends_store ps s now before after e sent told = record { view = e; packets = sent; records = told ∙ nothing_more before.records }
