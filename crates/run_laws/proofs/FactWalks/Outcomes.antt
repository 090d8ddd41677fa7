-- Facts stay when more is told, and one thing after another owes what each of them does.
use Rattle.std.proofs.Common.{◌≡◌, ℕ, List, [], ◌∷◌, ◌++◌, Option, Some, None, refl, sym, subst}
use Rattle.wire_messages.specs.declared.packet.Packet.{Packet}
use Rattle.the_run.specs.of_role_steps.Own.{Every}
use Rattle.the_run.specs.of_role_steps.Views.{SiteView, Told, DiskWrite, Outcome, quiet, joined_to, first_written}
use Rattle.the_run.specs.of_role_steps.declared.copies.FileCopy.{FileCopy}
use Rattle.the_run.proofs.of_role_steps.Sending.{every_append}
use Rattle.the_run.specs.Worlds.{Line, told_onto}
use Rattle.the_run.proofs.Boots.{every_weaker}
use Rattle.run_laws.specs.FactWalks.Facts.{past_of, onto, Facts, PacketIn, AllTold, WrittenIn, Fine, FineAt}
use Rattle.run_laws.specs.FactWalks.Keeping.{Growing}

pub onto_append : (a b past : List Told) → onto (a ++ b) past ≡ onto b (onto a past)
onto_append [] b past = refl
onto_append (x ∷ xs) b past = onto_append xs b (x ∷ past)

pub past_onto : (n : ℕ) (told : List Told) (trace : List Line) → past_of (told_onto n told trace) ≡ onto told (past_of trace)
past_onto n [] trace = refl
past_onto n (x ∷ xs) trace = past_onto n xs (record { number = n; told = x } ∷ trace)

-- ---- what is told ----

pub told_append : (facts : Facts) (past a b : List Told) → AllTold facts past a → AllTold facts (onto a past) b → AllTold facts past (a ++ b)
told_append facts past [] b h g = g
told_append facts past (x ∷ xs) b h g = (h.0, told_append facts (x ∷ past) xs b h.1 g)

-- what owes nothing
pub told_each : (facts : Facts) (P : Told → Type 0) → ((past : List Told) (x : Told) → P x → facts.told past x) → (past xs : List Told) → Every P xs → AllTold facts past xs
told_each facts P each past [] h = tt
told_each facts P each past (x ∷ xs) h = (each past x h.0, told_each facts P each (x ∷ past) xs h.1)

pub written_none : (facts : Facts) (past : List Told) (d : Option DiskWrite) → d ≡ None → WrittenIn facts past d
written_none facts past d e = subst (WrittenIn facts past) (sym e) tt

written_then : (facts : Facts) (past : List Told) (a b : Option DiskWrite) → WrittenIn facts past a → b ≡ None → WrittenIn facts past (first_written a b)
written_then facts past None b h e = written_none facts past b e
written_then facts past (Some d) b h e = h

-- ---- what stays ----

pub view_onto : (facts : Facts) → Growing facts → (told past : List Told) (me : ℕ) (v : SiteView) → facts.view past me v → facts.view (onto told past) me v
view_onto facts grows [] past me v h = h
view_onto facts grows (x ∷ xs) past me v h = view_onto facts grows xs (x ∷ past) me v (grows.view past x me v h)

pub disk_onto : (facts : Facts) → Growing facts → (told past : List Told) (copies : List FileCopy) → facts.disk past copies → facts.disk (onto told past) copies
disk_onto facts grows [] past copies h = h
disk_onto facts grows (x ∷ xs) past copies h = disk_onto facts grows xs (x ∷ past) copies (grows.disk past x copies h)

pub packet_onto : (facts : Facts) → Growing facts → (told past : List Told) (p : Packet) → PacketIn facts past p → PacketIn facts (onto told past) p
packet_onto facts grows [] past p h = h
packet_onto facts grows (x ∷ xs) past p h = packet_onto facts grows xs (x ∷ past) p (grows.carries past x p.from p.to p.epoch p.body h)

pub packets_onto : (facts : Facts) → Growing facts → (told past : List Told) (ps : List Packet) → Every (PacketIn facts past) ps → Every (PacketIn facts (onto told past)) ps
packets_onto facts grows told past ps h = every_weaker (PacketIn facts past) (PacketIn facts (onto told past)) ps (packet_onto facts grows told past) h

-- ---- one thing after another ----

-- the later one writes nothing
pub then_fine : {V W : Type 0} (facts : Facts) → Growing facts → (F : List Told → V → Type 0) (G : List Told → W → Type 0) (past : List Told) (o : Outcome V) (p : Outcome W) → Fine facts F past o → Fine facts G (onto o.told past) p → p.written ≡ None → Fine facts G past (joined_to o p)
then_fine facts grows F G past o p h g e = record {
  view = subst (λ (now : List Told). G now p.view) (sym (onto_append o.told p.told past)) g.view;
  sent = subst (λ (now : List Told). Every (PacketIn facts now) (o.sent ++ p.sent)) (sym (onto_append o.told p.told past))
      (every_append (PacketIn facts (onto p.told (onto o.told past))) o.sent p.sent (packets_onto facts grows p.told (onto o.told past) o.sent h.sent) g.sent);
  told = told_append facts past o.told p.told h.told g.told;
  written = written_then facts past o.written p.written h.written e;
}

pub quiet_fine : (facts : Facts) (me : ℕ) (past : List Told) (v : SiteView) → facts.view past me v → FineAt facts me past (quiet v)
quiet_fine facts me past v h = record { view = h; sent = tt; told = tt; written = tt }
