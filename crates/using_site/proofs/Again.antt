-- A call that looks again: it asks the same with the next take, or stands as it stood.
use Rattle.std.proofs.Common.{◌≡◌, ℕ, List, Option, Some, refl, sym, ap, ◌∙◌, subst}
use Rattle.std.proofs.lemmas.List.{append-nil}
use Rattle.role_steps.proofs.of_plain_facts.Options.{some_same}
use Rattle.locus_ids.specs.declared.ids.FileId.{FileId}
use Rattle.trace_book.specs.declared.operation.What.{What}
use Rattle.wire_messages.specs.Outboxes.{Outgoing}
use Rattle.role_steps.specs.Tables.{row, with_row, without_row}
use Rattle.role_steps.specs.Views.{Frame, Users, Outcome, quiet}
use Rattle.role_steps.specs.Requests.{waiting_key}
use Rattle.role_steps.specs.Using.{looks_again}
use Rattle.role_steps.specs.declared.users.Asking.{Asking}
use Rattle.role_steps.specs.declared.users.Asking.TheVariants as asking
use Rattle.role_steps.specs.declared.users.WaitingCall.{WaitingCall}
use Rattle.keyed_tables.specs.Rising.{Rising}
use Rattle.using_site.specs.Steps.{Gives}
use Rattle.using_site.proofs.Going.{with_waiting_rows}
use Rattle.using_site.proofs.Taken.{put_back}

-- the call that was taken out of the row is the call that stood there
pub row_was : (u v : Users) (key : ℕ) (w x found : WaitingCall) → v ≡ u → x ≡ found → ◌≡◌ {A = Option WaitingCall} (Some found) (row waiting_key key v.waiting) → ◌≡◌ {A = Option WaitingCall} (row waiting_key key u.waiting) (Some w) → x ≡ w
row_was u v key w x found e i r h = i ∙ some_same found w (r ∙ (ap (λ (z : Users). row waiting_key key z.waiting) e ∙ h))

quiet_of : (f : Frame) (w : WaitingCall) (k : Asking) (u : Users) → ((file : FileId) (asked : What) (take : ℕ) → k ≡ asking.Look file asked take → ⊥) → looks_again f w k u ≡ quiet u
quiet_of f w (asking.Look file asked take) u n = absurd (n file asked take refl)
quiet_of f w (asking.Open serial file how) u n = refl
quiet_of f w (asking.Op serial ss number o seen) u n = refl
quiet_of f w (asking.Close serial ss) u n = refl

quiet_gives : (o : Outcome Users) (u new : Users) {sent : Outgoing} → o ≡ quiet u → new ≡ u → Gives o new sent sent
quiet_gives o u new {sent = sent} e v = subst (λ (p : Outcome Users). Gives p new sent sent) (sym e) (record { view = v; packets = sym (append-nil sent.packets); records = sym (append-nil sent.records) })

-- what asks no look stands as it stood
pub stands : (f : Frame) (u v : Users) (rows all : List WaitingCall) (key : ℕ) (w x : WaitingCall) (k : Asking) {sent : Outgoing} → Rising waiting_key u.waiting → ◌≡◌ {A = Option WaitingCall} (row waiting_key key u.waiting) (Some w) → v ≡ u → rows ≡ without_row waiting_key key v.waiting → x ≡ w → w.asking ≡ k → all ≡ with_row waiting_key x rows → ((file : FileId) (asked : What) (take : ℕ) → k ≡ asking.Look file asked take → ⊥) → Gives (looks_again f w w.asking u) (with_waiting_rows all v) sent sent
stands f u v rows all key w x k {sent = sent} g h e l i j a n =
    subst (λ (y : Asking). Gives (looks_again f w y u) (with_waiting_rows all v) sent sent) (sym j)
    (quiet_gives (looks_again f w k u) u (with_waiting_rows all v) (quiet_of f w k u n)
    (ap (λ (rs : List WaitingCall). with_waiting_rows rs v) (a ∙ (ap (λ (y : WaitingCall). with_row waiting_key y rows) i ∙ (ap (with_row waiting_key w) (l ∙ ap (λ (z : Users). without_row waiting_key key z.waiting) e) ∙ put_back waiting_key key w u.waiting g h)))
    ∙ ap (with_waiting_rows u.waiting) e))
