-- In every run a make is granted a file whose number was reserved for it, and what a number was reserved for is a make.
use Rattle.std.proofs.Common.{◌≡◌, ℕ, List, [], ◌∷◌, sym, ◌∙◌, ap, subst, inl, inr}
use Rattle.locus_ids.specs.declared.ids.EpochId.{EpochId}
use Rattle.locus_ids.specs.declared.ids.FileId.{FileId}
use Rattle.locus_ids.specs.declared.ids.Serial.{Serial}
use Rattle.locus_ids.specs.declared.ids.Mode.{Mode}
use Rattle.locus_ids.specs.declared.ids.Mode.TheVariants as mode
use Rattle.locus_ids.specs.declared.sites.Members.{Members}
use Rattle.locus_ids.specs.declared.config.Config.{Config}
use Rattle.schedule_lines.specs.declared.line.ScheduleLine.{ScheduleLine}
use Rattle.trace_book.specs.declared.record.Record.{Record}
use Rattle.trace_book.specs.declared.record.Record.TheVariants as says
use Rattle.wire_messages.specs.declared.packet.Packet.{Packet}
use Rattle.wire_messages.specs.declared.body.Body.{Body}
use Rattle.wire_messages.specs.declared.body.Body.TheVariants as body
use Rattle.role_steps.specs.Opens.{mode_of}
use Rattle.role_steps.specs.Views.{Told, Shown, Begins, serial_key}
use Rattle.the_run.specs.Worlds.{World, Numbered}
use Rattle.the_run.specs.Runs.{run_in}
use Rattle.run_laws.proofs.Run.{found_among}
use Rattle.site_laws.specs.Vectors.Written.{past_of, WasTold, Begun, WasBegun, WasGranted, InstancesAgree}
use Rattle.site_laws.specs.Packs.InstanceBook.{Book, AskedBy, Sound}
use Rattle.site_laws.specs.Packs.InstanceFacts.{BodyFact, OpenSsFact, GrantFact, NumberedFact, WorldFact, Booked}
use Rattle.site_laws.proofs.Packs.InstanceAgree.{run_agrees}
use Rattle.site_laws.proofs.Packs.InstanceBooks.{asked_once}
use Rattle.site_laws.proofs.Packs.InstanceInstancesRun.{run_booked}
use Rattle.site_laws.specs.Locks.Going.{BegunAt, WasBegunAt, IsNumberedBy, InstanceGoesOn, InstancesGoOn}
use Rattle.site_laws.specs.Locks.Grants.{WasGrantedAs}
use Rattle.site_laws.proofs.Locks.FactsRun.{run_goes}
use Rattle.site_laws.proofs.Packs.WriterGranting.{GrantNoted, grant_noted}
use Rattle.site_laws.specs.Makes.Holding.{WasReserved, ReservedRecord, ReservedTold, MakesAreReserved, ReservesAreOfMakes}
use Rattle.site_laws.specs.Makes.Made.{AsksSo, IsAskedThere, IsBegunSo, AllBegunSo, IsNoBegin, AlwaysBegunSo, WorldMade}
use Rattle.site_laws.proofs.Makes.FreshRun.{run_making}

-- ---- the mode in which a storage site was asked is that of the grant ----

-- what the book has of such a packet
record AskNoted (book : Book) (e : EpochId) (key : ℕ) (m : Mode) : Type 0 where
  inst : Serial
  key_is : serial_key inst ≡ key
  to : ℕ
  to_boot : ℕ
  file : FileId
  fact : OpenSsFact book e to to_boot inst file m

body_noted : (book : Book) (p : Packet) (b : Body) (key : ℕ) (m : Mode) → BodyFact book p b → AsksSo key m b → AskNoted book p.epoch key m
body_noted book p (body.OpenSs inst file how set kind base vector parents) key m h k = record { inst = inst; key_is = k.0; to = p.to; to_boot = p.to_boot; file = file; fact = subst (OpenSsFact book p.epoch p.to p.to_boot inst file) k.1 h }
body_noted book p _ key m h k = absurd k

ask_noted : (c : Config) (w : World) (g : Booked c w) (s : ℕ) (e : EpochId) (key : ℕ) (m : Mode) → IsAskedThere w.sent s e key m → AskNoted g.0 e key m
ask_noted c w g s e key m h =
    let world : WorldFact c g.0 w = g.1 in
    subst (λ (i : EpochId). AskNoted g.0 i key m) h.epoch_is (body_noted g.0 h.opening.packet h.opening.packet.body key m (found_among (NumberedFact g.0) h.opening w.sent world.packets h.was_sent) h.asks)

same_mode : (c : Config) (w : World) (g : Booked c w) (s : ℕ) (e : EpochId) (key : ℕ) (m n : Mode) (file : FileId) → IsAskedThere w.sent s e key m → WasGrantedAs (past_of w.trace) e key file n → m ≡ n
same_mode c w g s e key m n file asked granted =
    let world : WorldFact c g.0 w = g.1 in
    let sound : Sound c g.0 = world.sound in
    let p : AskNoted g.0 e key m = ask_noted c w g s e key m asked in
    let q : GrantNoted g.0 e key file n = grant_noted c w g e key file n granted in
    let a : OpenSsFact g.0 e p.to p.to_boot p.inst p.file m = p.fact in
    let b : GrantFact g.0 e q.inst n file = q.fact in
    let members : a.members ≡ b.members = sound.once.listed e a.members b.members a.listed b.listed in
    let same : (p.file ≡ b.file_asked) × (a.how ≡ b.how) = asked_once c g.0 b.members p.inst q.inst p.file b.file_asked a.how b.how sound (p.key_is ∙ sym q.key_is) (subst (λ (x : Members). AskedBy g.0 x p.inst p.file a.how) members a.asked) b.asked in
    sym a.mode_is ∙ (ap mode_of same.1 ∙ b.mode_is)

-- an instance is asked for in one mode
abbrev pub OneMode : List Numbered → Type 0
OneMode sent = (s t : ℕ) (e : EpochId) (key : ℕ) (m n : Mode) → IsAskedThere sent s e key m → IsAskedThere sent t e key n → m ≡ n

two_modes : (c : Config) (w : World) (g : Booked c w) → OneMode w.sent
two_modes c w g s t e key m n asked other =
    let world : WorldFact c g.0 w = g.1 in
    let sound : Sound c g.0 = world.sound in
    let p : AskNoted g.0 e key m = ask_noted c w g s e key m asked in
    let q : AskNoted g.0 e key n = ask_noted c w g t e key n other in
    let a : OpenSsFact g.0 e p.to p.to_boot p.inst p.file m = p.fact in
    let b : OpenSsFact g.0 e q.to q.to_boot q.inst q.file n = q.fact in
    let members : a.members ≡ b.members = sound.once.listed e a.members b.members a.listed b.listed in
    let same : (p.file ≡ q.file) × (a.how ≡ b.how) = asked_once c g.0 b.members p.inst q.inst p.file q.file a.how b.how sound (p.key_is ∙ sym q.key_is) (subst (λ (x : Members). AskedBy g.0 x p.inst p.file a.how) members a.asked) b.asked in
    sym a.mode_is ∙ (ap mode_of same.1 ∙ b.mode_is)

pub run_one_mode : (c : Config) (lines : List ScheduleLine) → OneMode (run_in c lines).sent
run_one_mode c lines = two_modes c (run_in c lines) (run_booked c lines)

pub run_modes : (c : Config) (lines : List ScheduleLine) → ReservesAreOfMakes (past_of (run_in c lines).trace)
run_modes c lines e key s file other m reserved granted =
    let w : World = run_in c lines in
    let f : WorldMade c w = (run_making c lines).0 in
    sym (same_mode c w (run_booked c lines) s e key mode.Make m other (f.reserved s e key file reserved) granted)

-- ---- what a make is granted ----

begun_of : (s : ℕ) (e : EpochId) (key : ℕ) (file : FileId) (x : Told) → BegunAt s e key file x → Begun e key file x
begun_of s e key file (Begins t at inst of) h = (h.1, h.2, h.3)
begun_of s e key file _ h = absurd h

was_begun : (s : ℕ) (e : EpochId) (key : ℕ) (file : FileId) (past : List Told) → WasBegunAt past s e key file → WasBegun past e key file
was_begun s e key file [] h = absurd h
was_begun s e key file (x ∷ older) (inl h) = inl (begun_of s e key file x h)
was_begun s e key file (x ∷ older) (inr h) = inr (was_begun s e key file older h)

-- what a run knows of all its grants
record Whole (sent : List Numbered) (past : List Told) : Type 0 where
  agree : InstancesAgree past
  modes : (s : ℕ) (e : EpochId) (key : ℕ) (m n : Mode) (file : FileId) → IsAskedThere sent s e key m → WasGrantedAs past e key file n → m ≡ n

-- what was told at a time was told
abbrev Leads : List Told → List Told → Type 1
Leads older past = (P : Told → Type 0) → WasTold P older → WasTold P past

make_reserved : (sent : List Numbered) (past older : List Told) (x : Told) (e : EpochId) (key : ℕ) (file : FileId) → Whole sent past → Leads (x ∷ older) past → WasGranted past e key file → WasGrantedAs past e key file mode.Make → AllBegunSo sent (x ∷ older) → IsNumberedBy older e key file → (s : ℕ) × WasReserved (x ∷ older) s e key file
make_reserved sent past older x e key file whole leads granted as_make so n =
    let begun : WasBegunAt (x ∷ older) n.ss e key n.begun = inr n.was_begun in
    let same : n.begun ≡ file = whole.agree e key n.begun file (was_begun n.ss e key n.begun past (leads (BegunAt n.ss e key n.begun) begun)) granted in
    let k : IsBegunSo sent (x ∷ older) n.ss e key n.begun = so n.ss e key n.begun begun in
    (n.ss, subst (WasReserved (x ∷ older) n.ss e key) same (k.reserved (whole.modes n.ss e key k.how mode.Make file k.asked as_make)))

record_reserved : (sent : List Numbered) (past older : List Told) (r : Record) → Whole sent past → Leads (Shown r ∷ older) past → AllBegunSo sent (Shown r ∷ older) → InstanceGoesOn older (Shown r) → ReservedRecord older r
record_reserved sent past older (says.Grant e call request inst mode.Make file stamp ss) whole leads so goes = before (make_reserved sent past older x e (serial_key inst) file whole leads (leads _ (inl (refl_is, refl_key, refl_file))) (leads _ (inl (refl_is, refl_key, refl_file, refl_make))) so goes)
  where
    x : Told
    x = Shown (says.Grant e call request inst mode.Make file stamp ss)

    refl_is : e ≡ e
    refl_is = λ i. e

    refl_key : serial_key inst ≡ serial_key inst
    refl_key = λ i. serial_key inst

    refl_file : file ≡ file
    refl_file = λ i. file

    refl_make : ◌≡◌ {A = Mode} mode.Make mode.Make
    refl_make = λ i. mode.Make

    before : (s : ℕ) × WasReserved (x ∷ older) s e (serial_key inst) file → (s : ℕ) × WasReserved older s e (serial_key inst) file
    before (s, inl k) = absurd k
    before (s, inr k) = (s, k)
record_reserved sent past older _ whole leads so goes = tt

told_reserved : (sent : List Numbered) (past older : List Told) (x : Told) → Whole sent past → Leads (x ∷ older) past → (IsNoBegin x → AllBegunSo sent (x ∷ older)) → InstanceGoesOn older x → ReservedTold older x
told_reserved sent past older (Shown r) whole leads so goes = record_reserved sent past older r whole leads (so tt) goes
told_reserved sent past older _ whole leads so goes = tt

all_reserved : (sent : List Numbered) (past older : List Told) → Whole sent past → Leads older past → AlwaysBegunSo sent older → InstancesGoOn older → MakesAreReserved older
all_reserved sent past [] whole leads so goes = tt
all_reserved sent past (x ∷ older) whole leads so goes = (told_reserved sent past older x whole leads so.0 goes.0, all_reserved sent past older whole (λ P h. leads P (inr h)) so.1 goes.1)

pub run_reserved : (c : Config) (lines : List ScheduleLine) → MakesAreReserved (past_of (run_in c lines).trace)
run_reserved c lines =
    let w : World = run_in c lines in
    let f : WorldMade c w = (run_making c lines).0 in
    all_reserved w.sent (past_of w.trace) (past_of w.trace) (record { agree = run_agrees c lines; modes = λ s e key m n file a b. same_mode c w (run_booked c lines) s e key m n file a b }) (λ P h. h) f.always (run_goes c lines)
