-- Books: how they grow, and what stays of their facts.
use Rattle.std.proofs.Common.{◌≡◌, ◌≢◌, ◌≤◌, ℕ, ◌+◌, ◌*◌, Bool, true, false, List, [], ◌∷◌, Option, Some, None, refl, sym, ◌∙◌, ap, subst, ◌⊎◌, inl, inr, arith}
use Rattle.role_steps.proofs.of_plain_facts.Tests.{true_false}
use Rattle.locus_ids.specs.declared.ids.EpochId.{EpochId}
use Rattle.locus_ids.specs.declared.ids.FileId.{FileId}
use Rattle.locus_ids.specs.declared.ids.Serial.{Serial}
use Rattle.locus_ids.specs.declared.ids.Mode.{Mode}
use Rattle.locus_ids.specs.declared.ids.Mode.TheVariants as mode
use Rattle.locus_ids.specs.declared.sites.Members.{Members}
use Rattle.locus_ids.specs.declared.config.Config.{Config}
use Rattle.locus_ids.specs.Sizes.{sites_max}
use Rattle.trace_book.specs.declared.record.Record.{Record}
use Rattle.trace_book.specs.declared.record.Record.TheVariants as says
use Rattle.wire_messages.specs.declared.packet.Packet.{Packet}
use Rattle.wire_messages.specs.declared.body.Body.{Body}
use Rattle.wire_messages.specs.declared.body.Body.TheVariants as body
use Rattle.wire_messages.specs.declared.body.Opening.{Opening}
use Rattle.wire_messages.specs.declared.body.OpenedAs.{OpenedAs}
use Rattle.wire_messages.specs.declared.body.OpenedAs.TheVariants as opened
use Rattle.role_steps.specs.Own.{Every}
use Rattle.role_steps.specs.Views.{Frame, Store, Users, SiteView, Told, Shown, Begins, boot_in, serial_key}
use Rattle.role_steps.specs.Epochs.{frame_in}
use Rattle.role_steps.specs.declared.rounds.InEpoch.{InEpoch}
use Rattle.role_steps.specs.declared.synchronizing.SyncTable.{SyncTable}
use Rattle.role_steps.specs.declared.synchronizing.OpenRow.{OpenRow}
use Rattle.role_steps.specs.declared.synchronizing.OpenStage.{OpenStage}
use Rattle.role_steps.specs.declared.synchronizing.OpenStage.TheVariants as stage
use Rattle.role_steps.specs.declared.synchronizing.Early.{Early}
use Rattle.role_steps.specs.declared.users.Asking.{Asking}
use Rattle.role_steps.specs.declared.users.Asking.TheVariants as asking
use Rattle.the_run.specs.Kept.{Among}
use Rattle.the_run.proofs.Boots.{every_weaker}
use Rattle.site_laws.specs.Packs.InstanceBook.{Note, Listed, Asked, Placed, Began, Book, IsOf, AskedBy, PlacedFact, BeganFact, NoteFact, Once, Sound, Grown}
use Rattle.site_laws.specs.Packs.InstanceFacts.{AnswerFact, BodyFact, PacketFact, NoFact, Factless, MadeFact, WasPlaced, WasDenied, RecordFact, ToldFact, AskingFact, WaitingFact, UsersFact, InstanceFact, StoreFact, StageFact, OpenFact, EarlyOf, EarlyFact, TableFact, TablesFact, InEpochFact, ViewFact}

-- ---- growing ----

abbrev pub Leads : Book → Book → Type 0
Leads a b = (n : Note) → Among n a → Among n b

pub grown_same : (New : Note → Type 0) (a : Book) → Grown New a a
grown_same New a = record { leads = λ n h. h; fresh = λ n h. inl h }

either_old : (New : Note → Type 0) (a b : Book) (n : Note) → Grown New a b → Among n b ⊎ New n → Among n a ⊎ New n
either_old New a b n g (inl h) = g.fresh n h
either_old New a b n g (inr h) = inr h

pub grown_then : (New : Note → Type 0) (a b d : Book) → Grown New a b → Grown New b d → Grown New a d
grown_then New a b d g k = record { leads = λ n h. k.leads n (g.leads n h); fresh = λ n h. either_old New a b n g (k.fresh n h) }

either_weaker : (New Wide : Note → Type 0) (a : Book) (n : Note) → (New n → Wide n) → Among n a ⊎ New n → Among n a ⊎ Wide n
either_weaker New Wide a n f (inl h) = inl h
either_weaker New Wide a n f (inr h) = inr (f h)

pub grown_weaker : (New Wide : Note → Type 0) (a b : Book) → ((n : Note) → New n → Wide n) → Grown New a b → Grown Wide a b
grown_weaker New Wide a b f g = record { leads = g.leads; fresh = λ n h. either_weaker New Wide a n (f n) (g.fresh n h) }

cons_fresh : (New : Note → Type 0) (x : Note) (a : Book) → New x → (n : Note) → Among n (x ∷ a) → Among n a ⊎ New n
cons_fresh New x a h n (inl e) = inr (subst New (sym e) h)
cons_fresh New x a h n (inr k) = inl k

pub grown_cons : (New : Note → Type 0) (x : Note) (a : Book) → New x → Grown New a (x ∷ a)
grown_cons New x a h = record { leads = λ n k. inr k; fresh = cons_fresh New x a h }

-- a note that isn't a new one stood before
pub stood : (New : Note → Type 0) (a b : Book) (n : Note) → Grown New a b → (New n → ⊥) → Among n b → Among n a
stood New a b n g never h = pick (g.fresh n h)
  where
    pick : Among n a ⊎ New n → Among n a
    pick (inl k) = k
    pick (inr k) = absurd (never k)

-- ---- the facts of a later book ----

placed_later : (c : Config) (a b : Book) → Leads a b → (e : EpochId) (inst : Serial) (group css boot : ℕ) → PlacedFact c a e inst group css boot → PlacedFact c b e inst group css boot
placed_later c a b l e inst group css boot h = record { members = h.members; listed = l _ h.listed; file = h.file; how = h.how; asked = l _ h.asked; group_is = h.group_is; css_is = h.css_is; boot_is = h.boot_is }

began_later : (a b : Book) → Leads a b → (e : EpochId) (inst : Serial) (ss boot : ℕ) (file : FileId) → BeganFact a e inst ss boot file → BeganFact b e inst ss boot file
began_later a b l e inst ss boot file h = record { members = h.members; listed = l _ h.listed; file_asked = h.file_asked; how = h.how; asked = l _ h.asked; is_for = h.is_for; css = h.css; css_boot = h.css_boot; placed = l _ h.placed; boot_is = h.boot_is }

pub note_later : (c : Config) (a b : Book) → Leads a b → (n : Note) → NoteFact c a n → NoteFact c b n
note_later c a b l (Listed e members) h = tt
note_later c a b l (Asked us boot serial file how) h = h
note_later c a b l (Placed e inst group css boot ss) h = placed_later c a b l e inst group css boot h
note_later c a b l (Began e inst ss boot file) h = began_later a b l e inst ss boot file h

answer_later : (a b : Book) → Leads a b → (e : EpochId) (inst : Serial) (x : OpenedAs) → AnswerFact a e inst x → AnswerFact b e inst x
answer_later a b l e inst (opened.Open ino size) h = record { ss = h.ss; boot = h.boot; file = h.file; began = l _ h.began; ino_is = h.ino_is }
answer_later a b l e inst (opened.No why) h = record { members = h.members; listed = l _ h.listed; file = h.file; how = h.how; asked = l _ h.asked; make = h.make }

pub body_later : (a b : Book) → Leads a b → (p : Packet) (x : Body) → BodyFact a p x → BodyFact b p x
body_later a b l p (body.Install members) h = l _ h
body_later a b l p (body.Open serial call process request file how) h = l _ h
body_later a b l p (body.OpenSs inst file m set kind base vector parents) h = record { members = h.members; listed = l _ h.listed; how = h.how; asked = l _ h.asked; mode_is = h.mode_is; css = h.css; css_boot = h.css_boot; placed = l _ h.placed; boot_is = h.boot_is }
body_later a b l p (body.Opened inst answer) h = answer_later a b l p.epoch inst answer h
body_later a b l p _ h = tt

pub packets_later : (a b : Book) → Leads a b → (ps : List Packet) → Every (PacketFact a) ps → Every (PacketFact b) ps
packets_later a b l ps h = every_weaker (PacketFact a) (PacketFact b) ps (λ p. body_later a b l p p.body) h

pub no_fact : (book : Book) (p : Packet) (x : Body) → NoFact x → BodyFact book p x
no_fact book p (body.Install members) h = absurd h
no_fact book p (body.Open serial call process request file how) h = absurd h
no_fact book p (body.OpenSs inst file m set kind base vector parents) h = absurd h
no_fact book p (body.Opened inst answer) h = absurd h
no_fact book p _ h = tt

pub factless : (book : Book) (ps : List Packet) → Every Factless ps → Every (PacketFact book) ps
factless book ps h = every_weaker Factless (PacketFact book) ps (λ p. no_fact book p p.body) h

made_later : (a b : Book) → Leads a b → (e : EpochId) (inst : Serial) (file : FileId) (m : Mode) → MadeFact a e inst file m → MadeFact b e inst file m
made_later a b l e inst file mode.Make h = (h.0, h.1, h.2, h.3, l _ h.4)
made_later a b l e inst file mode.Read h = tt
made_later a b l e inst file mode.Write h = tt
made_later a b l e inst file mode.Resolve h = tt
made_later a b l e inst file mode.Mend h = tt

place_later : (a b : Book) → Leads a b → (e : EpochId) (inst : Serial) (ss : ℕ) → WasPlaced a e inst ss → WasPlaced b e inst ss
place_later a b l e inst ss h = record { group = h.group; css = h.css; boot = h.boot; placed = l _ h.placed }

denied_later : (a b : Book) → Leads a b → (e : EpochId) (inst : Serial) (m : Mode) → (m ≡ mode.Make) ⊎ WasDenied a e inst → (m ≡ mode.Make) ⊎ WasDenied b e inst
denied_later a b l e inst m (inl h) = inl h
denied_later a b l e inst m (inr h) = inr (place_later a b l e inst 0 h)

record_later : (a b : Book) → Leads a b → (r : Record) → RecordFact a r → RecordFact b r
record_later a b l (says.Join s e members) h = l _ h
record_later a b l (says.Refuse e call request inst m file why) h = record { members = h.members; listed = l _ h.listed; file_asked = h.file_asked; how = h.how; asked = l _ h.asked; mode_is = h.mode_is; denied = denied_later a b l e inst m h.denied }
record_later a b l (says.Grant e call request inst m file stamp ss) h = (record { members = h.0.members; listed = l _ h.0.listed; file_asked = h.0.file_asked; how = h.0.how; asked = l _ h.0.asked; mode_is = h.0.mode_is; is_for = h.0.is_for; made = made_later a b l e inst file m h.0.made }, place_later a b l e inst ss h.1)
record_later a b l _ h = tt

pub told_later : (a b : Book) → Leads a b → (x : Told) → ToldFact a x → ToldFact b x
told_later a b l (Shown r) h = record_later a b l r h
told_later a b l (Begins s e inst file) h = (h.0, l _ h.1)
told_later a b l _ h = tt

pub tolds_later : (a b : Book) → Leads a b → (xs : List Told) → Every (ToldFact a) xs → Every (ToldFact b) xs
tolds_later a b l xs h = every_weaker (ToldFact a) (ToldFact b) xs (told_later a b l) h

asking_later : (a b : Book) → Leads a b → (me boot : ℕ) (x : Asking) → AskingFact a me boot x → AskingFact b me boot x
asking_later a b l me boot (asking.Open serial file how) h = l _ h
asking_later a b l me boot _ h = tt

pub users_later : (a b : Book) → Leads a b → (me boot : ℕ) (u : Users) → ((serial : ℕ) (file : FileId) (how : Opening) → Among (Asked me boot serial file how) b → Among (Asked me boot serial file how) a) → UsersFact a me boot u → UsersFact b me boot u
users_later a b l me boot u back h = record { waiting = every_weaker (WaitingFact a me boot) (WaitingFact b me boot) u.waiting (λ w. asking_later a b l me boot w.asking) h.waiting; counted = λ serial file how k. h.counted serial file how (back serial file how k) }

pub store_later : (a b : Book) → Leads a b → (e : EpochId) (me boot : ℕ) (s : Store) → ((inst : Serial) (file : FileId) → Among (Began e inst me boot file) b → Among (Began e inst me boot file) a) → StoreFact a e me boot s → StoreFact b e me boot s
store_later a b l e me boot s back h = record { instances = every_weaker (InstanceFact a e me boot) (InstanceFact b e me boot) s.instances (λ i. l _) h.instances; has = λ inst file k. h.has inst file (back inst file k) }

pub stage_later : (a b : Book) → Leads a b → (f : Frame) (r : OpenRow) (file : FileId) (s : OpenStage) → StageFact a f r file s → StageFact b f r file s
stage_later a b l f r file stage.Asked h = (h.0, l _ h.1)
stage_later a b l f r file stage.Granted h = tt
stage_later a b l f r file (stage.Refused why) h = tt
stage_later a b l f r file stage.Ended h = tt

pub open_later : (a b : Book) → Leads a b → (f : Frame) (group : ℕ) (r : OpenRow) → OpenFact a f group r → OpenFact b f group r
open_later a b l f group r h = record { file = h.file; how = h.how; asked = l _ h.asked; mode_is = h.mode_is; group_is = h.group_is; is_for = h.is_for; placed = stage_later a b l f r h.file r.stage h.placed }

early_later : (a b : Book) → Leads a b → (f : Frame) (group us : ℕ) (x : Body) → EarlyOf a f group us x → EarlyOf b f group us x
early_later a b l f group us (body.Open serial call process request file how) h = (l _ h.0, h.1)
early_later a b l f group us _ h = tt

pub earlies_later : (a b : Book) → Leads a b → (f : Frame) (group : ℕ) (xs : List Early) → Every (EarlyFact a f group) xs → Every (EarlyFact b f group) xs
earlies_later a b l f group xs h = every_weaker (EarlyFact a f group) (EarlyFact b f group) xs (λ x. early_later a b l f group x.site x.body) h

pub table_later : (a b : Book) → Leads a b → (f : Frame) (t : SyncTable) → ((inst : Serial) (ss : ℕ) → Among (Placed f.epoch inst t.group f.me f.boot ss) b → Among (Placed f.epoch inst t.group f.me f.boot ss) a) → TableFact a f t → TableFact b f t
table_later a b l f t back h = record {
  css_is = h.css_is;
  boot_is = h.boot_is;
  opens = every_weaker (OpenFact a f t.group) (OpenFact b f t.group) t.opens (open_later a b l f t.group) h.opens;
  looks = h.looks;
  early = earlies_later a b l f t.group t.early h.early;
  has = λ inst ss k. h.has inst ss (back inst ss k);
}

pub tables_later : (a b : Book) → Leads a b → (f : Frame) (low : ℕ) (ts : List SyncTable) → ((inst : Serial) (group ss : ℕ) → Among (Placed f.epoch inst group f.me f.boot ss) b → Among (Placed f.epoch inst group f.me f.boot ss) a) → TablesFact a f low ts → TablesFact b f low ts
tables_later a b l f low [] back h = tt
tables_later a b l f low (t ∷ ts) back h = (h.0, table_later a b l f t (λ inst ss. back inst t.group ss) h.1, tables_later a b l f (t.group + 1) ts back h.2)

pub inside_later : (c : Config) (a b : Book) → Leads a b → (me : ℕ) (v : SiteView) (o : Option InEpoch) →
    ((e : EpochId) (inst : Serial) (file : FileId) → Among (Began e inst me v.boot file) b → Among (Began e inst me v.boot file) a) →
    ((e : EpochId) (inst : Serial) (group ss : ℕ) → Among (Placed e inst group me v.boot ss) b → Among (Placed e inst group me v.boot ss) a) → InEpochFact c a me v o → InEpochFact c b me v o
inside_later c a b l me v None began placed h = h
inside_later c a b l me v (Some e) began placed h = record {
  listed = l _ h.listed;
  here = h.here;
  store = store_later a b l e.id me v.boot v.store (began e.id) h.store;
  tables = tables_later a b l (frame_in c me v.boot e) 0 v.tables (placed e.id) h.tables;
}

-- the frame lemma of a view: no note of its boot is new
pub view_later : (c : Config) (a b : Book) → Leads a b → (me : ℕ) (v : SiteView) → ((n : Note) → Among n b → IsOf me v.boot n → Among n a) → ViewFact c a me v → ViewFact c b me v
view_later c a b l me v back h = record {
  users = users_later a b l me v.boot v.users (λ serial file how k. back _ k (refl, refl)) h.users;
  round = h.round;
  passed = λ n k own. h.passed n (back n k own) own;
  inside = inside_later c a b l me v v.epoch (λ e inst file k. back _ k (refl, refl)) (λ e inst group ss k. back _ k (refl, refl)) h.inside;
}

same_site : (s t b d : ℕ) (n : Note) → IsOf s b n → IsOf t d n → s ≡ t
same_site s t b d (Listed e members) h g = sym h.0 ∙ g.0
same_site s t b d (Asked us boot serial file how) h g = sym h.0 ∙ g.0
same_site s t b d (Placed e inst group css boot ss) h g = sym h.0 ∙ g.0
same_site s t b d (Began e inst ss boot file) h g = sym h.0 ∙ g.0

-- what another site does leaves a view's facts
pub view_beside : (c : Config) (a b : Book) (s t boot : ℕ) (v : SiteView) → s ≢ t → Grown (IsOf s boot) a b → ViewFact c a t v → ViewFact c b t v
view_beside c a b s t boot v ne g h = view_later c a b g.leads t v (λ n k own. stood (IsOf s boot) a b n g (λ new. ne (same_site s t boot v.boot n new own)) k) h

-- ---- what stands once, with one more note ----

abbrev is_listed : Note → Bool
is_listed (Listed e members) = true
is_listed _ = false

abbrev is_asked : Note → Bool
is_asked (Asked us boot serial file how) = true
is_asked _ = false

abbrev is_placed : Note → Bool
is_placed (Placed e inst group css boot ss) = true
is_placed _ = false

abbrev is_began : Note → Bool
is_began (Began e inst ss boot file) = true
is_began _ = false

-- a note of another kind stood before
before : (test : Note → Bool) (n x : Note) (book : Book) → test n ≡ true → test x ≡ false → Among n (x ∷ book) → Among n book
before test n x book a b (inl e) = absurd (true_false (sym a ∙ (ap test e ∙ b)))
before test n x book a b (inr h) = h

pub sound_cons : (c : Config) (x : Note) (book : Book) → Sound c book → NoteFact c (x ∷ book) x → Once (x ∷ book) → Sound c (x ∷ book)
sound_cons c x book s h once = record { notes = each; once = once }
  where
    each : (n : Note) → Among n (x ∷ book) → NoteFact c (x ∷ book) n
    each n (inl e) = subst (NoteFact c (x ∷ book)) (sym e) h
    each n (inr k) = note_later c book (x ∷ book) (λ m g. inr g) n (s.notes n k)

-- ---- a new list of members ----

listed_id : (e i : EpochId) (m n : Members) → Listed e m ≡ Listed i n → e ≡ i
listed_id e i m n h = cc

listed_members : (e i : EpochId) (m n : Members) → Listed e m ≡ Listed i n → m ≡ n
listed_members e i m n h = cc

pub once_listed : (e : EpochId) (members : Members) (book : Book) → Once book → ((m : Members) → Among (Listed e m) book → ⊥) → Once (Listed e members ∷ book)
once_listed e members book o fresh = record {
  listed = one;
  asked = λ us boot serial f g h i a b. o.asked us boot serial f g h i (before is_asked _ x book refl refl a) (before is_asked _ x book refl refl b);
  placed = λ i a b group css boot ss other_group other_css other_boot other k p q. o.placed i a b group css boot ss other_group other_css other_boot other k (before is_placed _ x book refl refl p) (before is_placed _ x book refl refl q);
  began = λ i a b ss boot other other_boot f g k p q. o.began i a b ss boot other other_boot f g k (before is_began _ x book refl refl p) (before is_began _ x book refl refl q);
}
  where
    x : Note
    x = Listed e members

    one : (i : EpochId) (m n : Members) → Among (Listed i m) (x ∷ book) → Among (Listed i n) (x ∷ book) → m ≡ n
    one i m n (inl p) (inl q) = listed_members i e m members p ∙ sym (listed_members i e n members q)
    one i m n (inl p) (inr q) = absurd (fresh n (subst (λ (y : EpochId). Among (Listed y n) book) (listed_id i e m members p) q))
    one i m n (inr p) (inl q) = absurd (fresh m (subst (λ (y : EpochId). Among (Listed y m) book) (listed_id i e n members q) p))
    one i m n (inr p) (inr q) = o.listed i m n p q

-- ---- a new open ----

asked_us : (us boot serial t d k : ℕ) (f g : FileId) (h i : Opening) → Asked us boot serial f h ≡ Asked t d k g i → us ≡ t
asked_us us boot serial t d k f g h i e = cc

asked_boot : (us boot serial t d k : ℕ) (f g : FileId) (h i : Opening) → Asked us boot serial f h ≡ Asked t d k g i → boot ≡ d
asked_boot us boot serial t d k f g h i e = cc

asked_serial : (us boot serial t d k : ℕ) (f g : FileId) (h i : Opening) → Asked us boot serial f h ≡ Asked t d k g i → serial ≡ k
asked_serial us boot serial t d k f g h i e = cc

asked_file : (us boot serial t d k : ℕ) (f g : FileId) (h i : Opening) → Asked us boot serial f h ≡ Asked t d k g i → f ≡ g
asked_file us boot serial t d k f g h i e = cc

asked_how : (us boot serial t d k : ℕ) (f g : FileId) (h i : Opening) → Asked us boot serial f h ≡ Asked t d k g i → h ≡ i
asked_how us boot serial t d k f g h i e = cc

asked_there : (book : Book) (us boot serial t d k : ℕ) (g : FileId) (i : Opening) → us ≡ t → boot ≡ d → serial ≡ k → Among (Asked us boot serial g i) book → Among (Asked t d k g i) book
asked_there book us boot serial t d k g i a b e h = subst (λ (n : Note). Among n book) (λ j. Asked (a j) (b j) (e j) g i) h

pub once_asked : (us boot serial : ℕ) (file : FileId) (how : Opening) (book : Book) → Once book → ((g : FileId) (i : Opening) → Among (Asked us boot serial g i) book → ⊥) → Once (Asked us boot serial file how ∷ book)
once_asked us boot serial file how book o fresh = record {
  listed = λ e m n a b. o.listed e m n (before is_listed _ x book refl refl a) (before is_listed _ x book refl refl b);
  asked = one;
  placed = λ i a b group css d ss other_group other_css other_boot other k p q. o.placed i a b group css d ss other_group other_css other_boot other k (before is_placed _ x book refl refl p) (before is_placed _ x book refl refl q);
  began = λ i a b ss d other other_boot f g k p q. o.began i a b ss d other other_boot f g k (before is_began _ x book refl refl p) (before is_began _ x book refl refl q);
}
  where
    x : Note
    x = Asked us boot serial file how

    one : (t d k : ℕ) (f g : FileId) (h i : Opening) → Among (Asked t d k f h) (x ∷ book) → Among (Asked t d k g i) (x ∷ book) → (f ≡ g) × (h ≡ i)
    one t d k f g h i (inl p) (inl q) = (asked_file t d k us boot serial f file h how p ∙ sym (asked_file t d k us boot serial g file i how q), asked_how t d k us boot serial f file h how p ∙ sym (asked_how t d k us boot serial g file i how q))
    one t d k f g h i (inl p) (inr q) = absurd (fresh g i (asked_there book t d k us boot serial g i (asked_us t d k us boot serial f file h how p) (asked_boot t d k us boot serial f file h how p) (asked_serial t d k us boot serial f file h how p) q))
    one t d k f g h i (inr p) (inl q) = absurd (fresh f h (asked_there book t d k us boot serial f h (asked_us t d k us boot serial g file i how q) (asked_boot t d k us boot serial g file i how q) (asked_serial t d k us boot serial g file i how q) p))
    one t d k f g h i (inr p) (inr q) = o.asked t d k f g h i p q

-- ---- a new place of an instance ----

placed_id : (e i : EpochId) (a b : Serial) (group css boot ss g t d other : ℕ) → Placed e a group css boot ss ≡ Placed i b g t d other → e ≡ i
placed_id e i a b group css boot ss g t d other h = cc

placed_inst : (e i : EpochId) (a b : Serial) (group css boot ss g t d other : ℕ) → Placed e a group css boot ss ≡ Placed i b g t d other → a ≡ b
placed_inst e i a b group css boot ss g t d other h = cc

placed_ss : (e i : EpochId) (a b : Serial) (group css boot ss g t d other : ℕ) → Placed e a group css boot ss ≡ Placed i b g t d other → ss ≡ other
placed_ss e i a b group css boot ss g t d other h = cc

pub once_placed : (e : EpochId) (inst : Serial) (group css boot ss : ℕ) (book : Book) → Once book → ((a : Serial) (g t d other : ℕ) → serial_key a ≡ serial_key inst → Among (Placed e a g t d other) book → ⊥) → Once (Placed e inst group css boot ss ∷ book)
once_placed e inst group css boot ss book o fresh = record {
  listed = λ i m n a b. o.listed i m n (before is_listed _ x book refl refl a) (before is_listed _ x book refl refl b);
  asked = λ us d serial f g h i a b. o.asked us d serial f g h i (before is_asked _ x book refl refl a) (before is_asked _ x book refl refl b);
  placed = one;
  began = λ i a b s d other other_boot f g k p q. o.began i a b s d other other_boot f g k (before is_began _ x book refl refl p) (before is_began _ x book refl refl q);
}
  where
    x : Note
    x = Placed e inst group css boot ss

    one : (i : EpochId) (a b : Serial) (g t d s h u j r : ℕ) → serial_key a ≡ serial_key b → Among (Placed i a g t d s) (x ∷ book) → Among (Placed i b h u j r) (x ∷ book) → s ≡ r
    one i a b g t d s h u j r k (inl p) (inl q) = placed_ss i e a inst g t d s group css boot ss p ∙ sym (placed_ss i e b inst h u j r group css boot ss q)
    one i a b g t d s h u j r k (inl p) (inr q) = absurd (fresh b h u j r (sym k ∙ ap serial_key (placed_inst i e a inst g t d s group css boot ss p)) (subst (λ (y : EpochId). Among (Placed y b h u j r) book) (placed_id i e a inst g t d s group css boot ss p) q))
    one i a b g t d s h u j r k (inr p) (inl q) = absurd (fresh a g t d s (k ∙ ap serial_key (placed_inst i e b inst h u j r group css boot ss q)) (subst (λ (y : EpochId). Among (Placed y a g t d s) book) (placed_id i e b inst h u j r group css boot ss q) p))
    one i a b g t d s h u j r k (inr p) (inr q) = o.placed i a b g t d s h u j r k p q

-- ---- a new instance ----

began_id : (e i : EpochId) (a b : Serial) (ss boot s d : ℕ) (f g : FileId) → Began e a ss boot f ≡ Began i b s d g → e ≡ i
began_id e i a b ss boot s d f g h = cc

began_inst : (e i : EpochId) (a b : Serial) (ss boot s d : ℕ) (f g : FileId) → Began e a ss boot f ≡ Began i b s d g → a ≡ b
began_inst e i a b ss boot s d f g h = cc

began_file : (e i : EpochId) (a b : Serial) (ss boot s d : ℕ) (f g : FileId) → Began e a ss boot f ≡ Began i b s d g → f ≡ g
began_file e i a b ss boot s d f g h = cc

pub once_began : (e : EpochId) (inst : Serial) (ss boot : ℕ) (file : FileId) (book : Book) → Once book → ((a : Serial) (s d : ℕ) (g : FileId) → serial_key a ≡ serial_key inst → Among (Began e a s d g) book → ⊥) → Once (Began e inst ss boot file ∷ book)
once_began e inst ss boot file book o fresh = record {
  listed = λ i m n a b. o.listed i m n (before is_listed _ x book refl refl a) (before is_listed _ x book refl refl b);
  asked = λ us d serial f g h i a b. o.asked us d serial f g h i (before is_asked _ x book refl refl a) (before is_asked _ x book refl refl b);
  placed = λ i a b group css d s other_group other_css other_boot other k p q. o.placed i a b group css d s other_group other_css other_boot other k (before is_placed _ x book refl refl p) (before is_placed _ x book refl refl q);
  began = one;
}
  where
    x : Note
    x = Began e inst ss boot file

    one : (i : EpochId) (a b : Serial) (s d t h : ℕ) (f g : FileId) → serial_key a ≡ serial_key b → Among (Began i a s d f) (x ∷ book) → Among (Began i b t h g) (x ∷ book) → f ≡ g
    one i a b s d t h f g k (inl p) (inl q) = began_file i e a inst s d ss boot f file p ∙ sym (began_file i e b inst t h ss boot g file q)
    one i a b s d t h f g k (inl p) (inr q) = absurd (fresh b t h g (sym k ∙ ap serial_key (began_inst i e a inst s d ss boot f file p)) (subst (λ (y : EpochId). Among (Began y b t h g) book) (began_id i e a inst s d ss boot f file p) q))
    one i a b s d t h f g k (inr p) (inl q) = absurd (fresh a s d f (k ∙ ap serial_key (began_inst i e b inst t h ss boot g file q)) (subst (λ (y : EpochId). Among (Began y a s d f) book) (began_id i e b inst t h ss boot g file q) p))
    one i a b s d t h f g k (inr p) (inr q) = o.began i a b s d t h f g k p q

-- ---- an instance's key is of one open ----

key_us : (a b : Serial) → a.us ≤ sites_max → b.us ≤ sites_max → serial_key a ≡ serial_key b → a.us ≡ b.us
key_us a b h g k = key_low a.serial a.us b.serial b.us h g k
  where
    key_low : (x u y w : ℕ) → u ≤ sites_max → w ≤ sites_max → x * 256 + u ≡ y * 256 + w → u ≡ w
    key_low x u y w h g k = omega (arith, h, g, k)

key_serial : (a b : Serial) → a.us ≡ b.us → serial_key a ≡ serial_key b → a.serial ≡ b.serial
key_serial a b e k = key_high a.serial a.us b.serial b.us e k
  where
    key_high : (x u y w : ℕ) → u ≡ w → x * 256 + u ≡ y * 256 + w → x ≡ y
    key_high x u y w e k = omega (arith, e, k)

-- in an epoch what was asked under an instance's key is one open
pub asked_once : (c : Config) (book : Book) (members : Members) (a b : Serial) (f g : FileId) (h i : Opening) → Sound c book → serial_key a ≡ serial_key b → AskedBy book members a f h → AskedBy book members b g i → (f ≡ g) × (h ≡ i)
asked_once c book members a b f g h i s k p q =
    let us : a.us ≡ b.us = key_us a b (s.notes (Asked a.us (boot_in members.boot a.us) a.serial f h) p) (s.notes (Asked b.us (boot_in members.boot b.us) b.serial g i) q) k in
    s.once.asked b.us (boot_in members.boot b.us) b.serial f g h i (asked_there book a.us (boot_in members.boot a.us) a.serial b.us (boot_in members.boot b.us) b.serial f h us (ap (λ (x : ℕ). boot_in members.boot x) us) (key_serial a b us k) p) q

-- one list of members has one boot number of a site
pub boot_same : (m n : Members) (s t boot other : ℕ) → m ≡ n → s ≡ t → boot ≡ boot_in m.boot s → other ≡ boot_in n.boot t → boot ≡ other
boot_same m n s t boot other e g h k = h ∙ ((λ i. boot_in (e i).boot (g i)) ∙ sym k)
