-- What a reply makes of the past, by its parts.
use Rattle.std.specs.Prelude.{◌≡◌, ◌==◌, ◌+◌, ℕ, Bool, ◌&&◌, true, false, List, [], ◌∷◌, filter, fold, Some}
use Rattle.std.specs.List.{find}
use Rattle.locus_ids.specs.declared.ids.CallId.{CallId}
use Rattle.locus_ids.specs.declared.ids.FileId.{FileId}
use Rattle.locus_ids.specs.declared.ids.Serial.{Serial}
use Rattle.trace_book.specs.declared.call.Call.{Call}
use Rattle.trace_book.specs.declared.call.Call.TheVariants as call
use Rattle.trace_book.specs.declared.reply.Reply.{Reply}
use Rattle.tree_model.specs.Epochs.{is_in}
use Rattle.promises.specs.Past.{Past, CallSoFar, Epoch, Instance, Site, is_named}
use Rattle.promises.specs.After.{change, is_epoch, is_id, left_unmended, named_by, replied_to, taken_by}
use Rattle.audit_sites.specs.Rows.{holds_again}
use Rattle.audit_past.specs.declared.replying.Replied.{Replied}
use Rattle.audit_past.specs.declared.replying.Replied.TheVariants.{Named, Again, Lost, Plain}

-- the call of this process reads by this number
abbrev pub reads_by : ℕ → Call → Bool
reads_by fd (call.Read n at len) = n == fd
reads_by fd _ = false

abbrev pub is_reading_by : ℕ → ℕ → CallSoFar → Bool
is_reading_by process fd k = (k.process == process) && reads_by fd k.words

-- these are the parts of the reply to the call
abbrev pub IsReplied : Replied → Reply → CallSoFar → Type 0
IsReplied (Named process fd d) r k = (taken_by r k ≡ record { process = process; fd = fd; names = d } ∷ []) × (left_unmended r k.words ≡ []) × (named_by r k ≡ d ∷ [])
IsReplied (Again process fd d) r k = (is_reading_by process fd k ≡ true) × (taken_by r k ≡ []) × (left_unmended r k.words ≡ []) × (named_by r k ≡ d ∷ [])
IsReplied (Lost home f) r k = (taken_by r k ≡ []) × (left_unmended r k.words ≡ f ∷ []) × (home ≡ k.epoch)
IsReplied Plain r k = (taken_by r k ≡ []) × (left_unmended r k.words ≡ []) × (named_by r k ≡ [])

-- these are the parts of the reply to the call of this name
pub record IsReplyTo (calls : List CallSoFar) (id : CallId) (r : Reply) (made : Replied) : Type 0 where
  pub call : CallSoFar
  pub found : find (is_id id) calls ≡ Some call
  pub parts : IsReplied made r call

-- an epoch with an instance named more
abbrev pub names_in : Serial → Epoch → Epoch
names_in i t = record t { opened = change (is_named i) (λ (x : Instance). record x { named = true }) t.opened }

-- an epoch with an instance that a read has opened again
abbrev pub holds_in : Serial → Epoch → Epoch
holds_in i t = record t { opened = change (is_named i) (λ (x : Instance). record x { named = true; again = true; uses = x.uses + 1 }) t.opened }

-- an epoch with a directory unmended more
abbrev pub unmends_in : FileId → Epoch → Epoch
unmends_in f t = record t { unmended = f ∷ t.unmended }

-- the call waits no more
abbrev pub at_rest : CallId → Past → Past
at_rest id p = record p { calls = change (is_id id) (λ (x : CallSoFar). record x { waits = false }) p.calls }

-- and this becomes of the past
abbrev pub settled : Replied → CallId → Past → Past
settled (Named process fd d) id p = record (at_rest id p) {
  sites = change (λ (s : Site). s.number == id.site) (λ (s : Site). record s { descriptors = record { process = process; fd = fd; names = d } ∷ s.descriptors }) p.sites;
  epochs = change (is_epoch d.epoch) (names_in d.inst) p.epochs;
}
settled (Again process fd d) id p = record (at_rest id p) {
  sites = change (λ (s : Site). s.number == id.site) (holds_again process fd d) p.sites;
  epochs = change (is_epoch d.epoch) (holds_in d.inst) p.epochs;
}
settled (Lost home f) id p = record (at_rest id p) { epochs = change (λ (t : Epoch). is_in home t.id) (unmends_in f) p.epochs }
settled Plain id p = at_rest id p

-- the calls of the name are replied to
abbrev pub replied_all : CallId → Reply → Past → Past
replied_all id r p = fold (λ old (k : CallSoFar). replied_to r k old) p (filter (is_id id) p.calls)
