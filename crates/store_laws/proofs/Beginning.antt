-- An open at its storage site: the instance is begun as it was granted, or as a make on a number that is free; a repeated request is
-- answered again.
use Rattle.std.proofs.Common.{◌≡◌, ℕ, ◌≤◌, ◌==◌, Bool, true, false, not, cond, ◌&&◌, List, [], ◌∷◌, Option, Some, None, refl, sym, ◌∙◌, ap, subst, ◌⊎◌, inl, inr, length}
use Rattle.std.specs.Option.{option_map, option_or, is_none}
use Rattle.role_steps.proofs.of_plain_facts.Numbers.{equal}
use Rattle.role_steps.proofs.of_plain_facts.Options.{none_some, some_none}
use Rattle.role_steps.proofs.of_plain_facts.Tests.{and_first, and_second, true_false}
use Rattle.locus_ids.specs.declared.config.Config.{Config}
use Rattle.locus_ids.specs.declared.ids.CallId.{CallId}
use Rattle.locus_ids.specs.declared.ids.EpochId.{EpochId}
use Rattle.locus_ids.specs.declared.ids.FileId.{FileId}
use Rattle.locus_ids.specs.declared.ids.Mode.{Mode}
use Rattle.locus_ids.specs.declared.ids.Mode.TheVariants as mode
use Rattle.locus_ids.specs.declared.ids.Serial.{Serial}
use Rattle.locus_ids.specs.declared.ids.Stamp.{Stamp}
use Rattle.locus_ids.specs.declared.refusal.Refusal.{Refusal}
use Rattle.locus_ids.specs.declared.refusal.Refusal.TheVariants as refusal
use Rattle.locus_ids.specs.Sizes.{sites_max}
use Rattle.commit_graph.specs.Grants.{grant_refusal}
use Rattle.commit_graph.specs.declared.history.Version.{Version}
use Rattle.trace_book.specs.declared.record.Record.TheVariants as says
use Rattle.wire_messages.specs.declared.body.Body.{Body}
use Rattle.wire_messages.specs.declared.body.Body.TheVariants as body
use Rattle.wire_messages.specs.declared.body.OpenedAs.TheVariants as opened
use Rattle.file_effects.specs.Works.{begun}
use Rattle.file_effects.specs.declared.work.Work.{Work}
use Rattle.role_steps.specs.Opens.{stamp_or_none}
use Rattle.role_steps.specs.Own.{Every}
use Rattle.role_steps.specs.Storage.{StoreRequest, base_of, begins, begun_instance, content_of, copy_of, instance_key, instance_of, opened_packets, with_instance}
use Rattle.role_steps.specs.Views.{Frame, Store, Told, Shown, Begins, Shuts, packet, serial_key, sync_site, to_some, to_sync}
use Rattle.role_steps.specs.declared.copies.FileCopy.{FileCopy}
use Rattle.role_steps.specs.declared.instances.Instance.{Instance}
use Rattle.the_run.specs.Worlds.{Line}
use Rattle.tree_model.specs.Files.{version_of}
use Rattle.tree_model.specs.Given.{gives_grant}
use Rattle.tree_model.specs.Histories.{history, held, stamped_content}
use Rattle.tree_model.specs.Opening.{held_by, is_only, is_placed, is_site, open_refusal, place_refusal, resolving_site}
use Rattle.tree_model.specs.Same.{same_version}
use Rattle.tree_model.specs.State.{TreeState, has_stamp_of, held_at, is_granted, kept_of, openers}
use Rattle.tree_model.specs.Tree.{tree_of, kept_in}
use Rattle.tree_model.specs.Working.{list_of, merges, parents_of}
use Rattle.tree_laws.specs.Printed.{entries}
use Rattle.tree_laws.specs.Doing.{FrameFact, StoreFine, StoreHeld}
use Rattle.tree_laws.specs.Following.{MayTell, MayBegin, IsFollowed}
use Rattle.tree_laws.specs.Frames.{AllStay, VersionsStay}
use Rattle.tree_laws.specs.Packets.{BegunSize, HasSize, PacketFact, PlainOpenSs}
use Rattle.tree_laws.specs.Past.{GrantRecord, Printed, ShutsIt, WasBegun, WasGranted, WasShut}
use Rattle.tree_laws.specs.Stores.{HoldsMade, InstanceFact, LiesAs, PlainLies, WorksAs, copy_for}
use Rattle.tree_laws.proofs.CarriedLooks.{More}
use Rattle.tree_laws.proofs.CarriedVersions.{joins_stay}
use Rattle.lawful_trace.specs.TreeRows.{IsCallIn}
use Rattle.tree_laws.proofs.Versions.{versions_stay}
use Rattle.tree_laws.specs.Orders.Joining.{PacksAreOfSites}
use Rattle.tree_laws.proofs.Rows.{followed_rows}
use Rattle.store_laws.proofs.Holding.{held_stands}
use Rattle.store_laws.proofs.Differing.{steps_stay}
use Rattle.store_laws.specs.Rests.{AllStays, IsAsGranted, IsUnbegun, StoreRests}
use Rattle.store_laws.proofs.Begun.{granted_named, named_of}
use Rattle.store_laws.proofs.Places.{AreOne, granted_once, plain_place}
use Rattle.store_laws.proofs.Users.OpenGrants.{only_some}
use Rattle.store_laws.proofs.Staying.{instance_more}
use Rattle.store_laws.proofs.Tabled.{apart_latest, every_latest, latest_has, latest_same}

-- ---- what is sent to the synchronization site ----

pub to_sync_sent : (c : Config) (trace : List Line) (f : Frame) (group : ℕ) (b : Body) → ((to : ℕ) → PacketFact c trace (packet f to b)) → Every (PacketFact c trace) (to_sync f group b)
to_sync_sent c trace f group b k = over (sync_site f.config f.members group)
  where
    over : (o : Option ℕ) → Every (PacketFact c trace) (to_some f b o)
    over None = tt
    over (Some to) = (k to, tt)

pub opened_sent : (c : Config) (trace : List Line) (f : Frame) (i : Instance) → WasBegun trace f.me f.epoch i.inst i.file → BegunSize c trace f.epoch i.inst i.size → Every (PacketFact c trace) (opened_packets f i)
opened_sent c trace f i b sized = to_sync_sent c trace f i.file.group (body.Opened i.inst (opened.Open i.file.ino i.size)) (λ to. (i.file, b, refl, sized))

-- ---- what was shut was begun ----

pub shut_begun : (c : Config) (trace : List Line) → IsFollowed c trace → (s : ℕ) (e : EpochId) (i : Serial) → WasShut trace s e i → (f : FileId) × WasBegun trace s e i f
shut_begun c [] h s e i k = absurd k
shut_begun c (x ∷ older) h s e i (inr k) = (let b : (f : FileId) × WasBegun older s e i f = shut_begun c older h.1 s e i k in (b.0, inr b.1))
shut_begun c (x ∷ older) h s e i (inl k) = now x.told h.0 k
  where
    now : (z : Told) → MayTell c older z → ShutsIt s e i older z → (f : FileId) × WasBegun (x ∷ older) s e i f
    now (Shuts site at inst) may p = (may.at.grant.file, inr (subst (λ (j : Serial). WasBegun older s e j may.at.grant.file) p.serial_is (subst (λ (y : EpochId). WasBegun older s y inst may.at.grant.file) p.epoch_is (subst (λ (y : ℕ). WasBegun older y at inst may.at.grant.file) p.site_is may.runs.begun))))
    now _ may p = absurd p

-- ---- the version of a grant ----

none_is : {A : Type 0} (o : Option A) → is_none o ≡ true → o ≡ None
none_is None e = refl
none_is (Some x) e = absurd (true_false (sym e))

same_some : (o stamp : Option Stamp) (v : Stamp) → o ≡ Some v → same_version o stamp ≡ true → (w : Stamp) × (stamp ≡ Some w)
same_some o (Some w) v e k = (w, refl)
same_some o None v e k = absurd (true_false (sym (subst (λ (y : Option Stamp). same_version y None ≡ true) e k)))

-- a grant has these parts
pub record GivenParts (h : List Version) (t : TreeState) (call : CallId) (m : Mode) (f : FileId) (stamp : Option Stamp) (ss : ℕ) : Type 0 where
  pub refusal : open_refusal h t m call f ≡ None
  pub placed : is_placed h t call m f stamp ss ≡ true

pub given_parts : (h : List Version) (t : TreeState) (call : CallId) (i : Serial) (m : Mode) (f : FileId) (stamp : Option Stamp) (ss : ℕ) → gives_grant h t call i m f stamp ss ≡ true → GivenParts h t call m f stamp ss
given_parts h t call i m f stamp ss g = over (is_none (open_refusal h t m call f)) (i.us == call.site) (not (is_granted t i)) (is_placed h t call m f stamp ss) refl refl (and_second t.started _ g)
  where
    over : (a b d e : Bool) → is_none (open_refusal h t m call f) ≡ a → is_placed h t call m f stamp ss ≡ e → a && (b && (d && e)) ≡ true → GivenParts h t call m f stamp ss
    over true true true true p q k = record { refusal = none_is (open_refusal h t m call f) p; placed = q }
    over true true true false p q k = absurd (true_false (sym k))
    over true true false e p q k = absurd (true_false (sym k))
    over true false d e p q k = absurd (true_false (sym k))
    over false b d e p q k = absurd (true_false (sym k))

-- a resolution has the version of the site that it names
resolved_some : (h : List Version) (t : TreeState) (call : CallId) (f : FileId) (stamp : Option Stamp) (ss : ℕ) → GivenParts h t call mode.Resolve f stamp ss → (v : Stamp) × (stamp ≡ Some v)
resolved_some h t call f stamp ss g = over (resolving_site t call) refl (and_first (is_site (resolving_site t call) ss) (same_version (held_at t ss f.ino) stamp) g.placed) (named (grant_refusal mode.Resolve (openers t f) (kept_of h t f)) g.refusal)
  where
    test : (b : Bool) → ◌≡◌ {A = Option Refusal} (cond b None (Some refusal.NoStorage)) None → b ≡ true
    test true e = refl
    test false e = absurd (some_none refusal.NoStorage e)

    named : (o : Option Refusal) → option_or o (place_refusal h t mode.Resolve call f) ≡ None → has_stamp_of (kept_of h t f) (held_by t (resolving_site t call) f.ino) ≡ true
    named None e = test (has_stamp_of (kept_of h t f) (held_by t (resolving_site t call) f.ino)) e
    named (Some r) e = absurd (some_none r e)

    holds : (o : Option Stamp) → held_at t ss f.ino ≡ o → has_stamp_of (kept_of h t f) o ≡ true → (v : Stamp) × (stamp ≡ Some v)
    holds None e k = absurd (true_false (sym k))
    holds (Some v) e k = same_some (held_at t ss f.ino) stamp v e (and_second (is_site (resolving_site t call) ss) (same_version (held_at t ss f.ino) stamp) g.placed)

    over : (o : Option ℕ) → resolving_site t call ≡ o → is_site o ss ≡ true → has_stamp_of (kept_of h t f) (held_by t (resolving_site t call) f.ino) ≡ true → (v : Stamp) × (stamp ≡ Some v)
    over None is e k = absurd (true_false (sym e))
    over (Some site) is e k = holds (held_at t ss f.ino) refl (subst (λ (n : ℕ). has_stamp_of (kept_of h t f) (held_at t n f.ino) ≡ true) (equal site ss e) (subst (λ (o : Option ℕ). has_stamp_of (kept_of h t f) (held_by t o f.ino) ≡ true) is k))

-- but for mends and makes a grant is on a version
abbrev StandsOn : Mode → Option Stamp → Type 0
StandsOn mode.Mend stamp = Unit {0}
StandsOn mode.Make stamp = Unit {0}
StandsOn _ stamp = (v : Stamp) × (stamp ≡ Some v)

given_on : (h : List Version) (t : TreeState) (call : CallId) (m : Mode) (f : FileId) (stamp : Option Stamp) (ss : ℕ) → GivenParts h t call m f stamp ss → StandsOn m stamp
given_on h t call mode.Read f stamp ss g = only_some (kept_of h t f) stamp (and_first (is_only (kept_of h t f) stamp) (same_version (held_at t ss f.ino) stamp) g.placed)
given_on h t call mode.Write f stamp ss g = only_some (kept_of h t f) stamp (and_first (is_only (kept_of h t f) stamp) (same_version (held_at t ss f.ino) stamp) g.placed)
given_on h t call mode.Resolve f stamp ss g = resolved_some h t call f stamp ss g
given_on h t call mode.Mend f stamp ss g = tt
given_on h t call mode.Make f stamp ss g = tt

granted_on : (c : Config) (trace : List Line) → IsFollowed c trace → (e : EpochId) (d : CallId) (request : ℕ) (i : Serial) (m : Mode) (f : FileId) (stamp : Option Stamp) (ss : ℕ) → WasGranted trace e d request i m f stamp ss → StandsOn m stamp
granted_on c [] h e d request i m f stamp ss g = absurd g
granted_on c (x ∷ older) h e d request i m f stamp ss (inr g) = granted_on c older h.1 e d request i m f stamp ss g
granted_on c (x ∷ older) h e d request i m f stamp ss (inl g) = now x.told h.0 g
  where
    now : (z : Told) → MayTell c older z → Printed (GrantRecord e d request i m f stamp ss) older z → StandsOn m stamp
    now (Shown (says.Grant at call number inst how file on place)) may p = subst (StandsOn m) p.stamp_is (subst (λ (k : Mode). StandsOn k on) p.mode_is
        (given_on (history c (entries older)) (tree_of c at file.group (entries older)) call how file on place (given_parts (history c (entries older)) (tree_of c at file.group (entries older)) call inst how file on place may.row.gives)))
    now _ may p = absurd p

-- ---- the work of what is begun ----

work_on : (c : Config) (trace : List Line) (m : Mode) (file : FileId) (stamp : Option Stamp) → (m ≡ mode.Make → ⊥) → StandsOn m stamp →
    begun m stamp (stamped_content (history c (entries trace)) file stamp) ≡ begun m (base_of m (option_map (copy_for file) (option_map (version_of c (entries trace) file) stamp)) (stamp_or_none stamp)) (content_of (option_map (copy_for file) (option_map (version_of c (entries trace) file) stamp)))
work_on c trace mode.Make file stamp plain on = absurd (plain refl)
work_on c trace mode.Read file (Some v) plain on = refl
work_on c trace mode.Write file (Some v) plain on = refl
work_on c trace mode.Resolve file (Some v) plain on = refl
work_on c trace mode.Mend file (Some v) plain on = refl
work_on c trace mode.Mend file None plain on = refl
work_on c trace mode.Read file None plain on = absurd (none_some on.0 on.1)
work_on c trace mode.Write file None plain on = absurd (none_some on.0 on.1)
work_on c trace mode.Resolve file None plain on = absurd (none_some on.0 on.1)

plain_as : (c : Config) (trace : List Line) (f : Frame) (i : Instance) (m : Mode) → (m ≡ mode.Make → ⊥) → PlainLies c trace i → LiesAs c trace f i m
plain_as c trace f i mode.Make plain l = absurd (plain refl)
plain_as c trace f i mode.Read plain l = l
plain_as c trace f i mode.Write plain l = l
plain_as c trace f i mode.Resolve plain l = l
plain_as c trace f i mode.Mend plain l = l

plain_holds : (c : Config) (trace : List Line) (f : Frame) (i : Instance) (m : Mode) → (m ≡ mode.Make → ⊥) → HoldsMade c trace f i m
plain_holds c trace f i mode.Make plain = absurd (plain refl)
plain_holds c trace f i mode.Read plain = tt
plain_holds c trace f i mode.Write plain = tt
plain_holds c trace f i mode.Resolve plain = tt
plain_holds c trace f i mode.Mend plain = tt

-- ---- a new instance in the store ----

-- the store with a new instance that is begun now
pub with_new : (c : Config) (n : ℕ) (trace : List Line) → PacksAreOfSites c → IsFollowed c trace → (f : Frame) (s : Store) → StoreHeld c f trace s → (i : Instance) → MayTell c trace (Begins f.me f.epoch i.inst i.file) → AllStay c trace (More n (Begins f.me f.epoch i.inst i.file) trace) (Begins f.me f.epoch i.inst i.file) →
    InstanceFact c (More n (Begins f.me f.epoch i.inst i.file) trace) f i → StoreHeld c f (More n (Begins f.me f.epoch i.inst i.file) trace) (with_instance i s)
with_new c n trace few h f s held i may stay fact = record {
  copies = record { are = held.copies.are; ascends = held.copies.ascends };
  instances = record {
    instances = every_latest instance_key i (InstanceFact c trace f) (InstanceFact c (More n (Begins f.me f.epoch i.inst i.file) trace) f) s.instances (λ j other k. instance_more c n (Begins f.me f.epoch i.inst i.file) trace few h may stay f j tt k) held.instances.apart held.instances.instances fact;
    apart = apart_latest instance_key i s.instances held.instances.apart;
    has = has;
    steps = steps_stay c trace (More n (Begins f.me f.epoch i.inst i.file) trace) (versions_stay c n (Begins f.me f.epoch i.inst i.file) trace h may stay.fresh stay.order) s.steps held.instances.steps;
  };
}
  where
    has : (j : Serial) (file : FileId) → WasBegun (More n (Begins f.me f.epoch i.inst i.file) trace) f.me f.epoch j file → (y : Instance) × (instance_of (with_instance i s) j ≡ Some y)
    has j file (inl p) = (i, subst (λ (k : Serial). instance_of (with_instance i s) k ≡ Some i) p.serial_is (latest_same instance_key i s.instances))
    has j file (inr p) = latest_has instance_key i (serial_key j) s.instances (held.instances.has j file p)

-- ---- an open of a file that stands ----

pub plain_begun : (c : Config) (n : ℕ) (trace : List Line) → PacksAreOfSites c → IsFollowed c trace → StoreRests c trace → (f : Frame) → FrameFact c trace f → (s : Store) → StoreHeld c f trace s → (r : StoreRequest) → (r.mode ≡ mode.Make → ⊥) → PlainOpenSs c trace f.epoch f.me r.inst r.file r.mode r.set r.kind r.base r.vector r.parents → instance_of s r.inst ≡ None →
    AllStays c n trace (Begins f.me f.epoch r.inst r.file ∷ []) → StoreFine c n trace f s (begins f (begun_instance r r.file (copy_of s r.file)) (Begins f.me f.epoch r.inst r.file ∷ []) s)
plain_begun c n trace few h rests f frame s held r plain k new stays = record {
  told = (may, tt);
  own = (refl, tt);
  view = with_new c n trace few h f s held i may (stays may).0 fact;
  sent = opened_sent c after f i fact.begun fact.sized;
  written = tt;
}
  where
    i : Instance
    i = begun_instance r r.file (copy_of s r.file)

    after : List Line
    after = More n (Begins f.me f.epoch r.inst r.file) trace

    unbegun : IsUnbegun trace f.epoch r.inst
    unbegun site g b = (let here : WasBegun trace f.me f.epoch r.inst g = subst (λ (y : ℕ). WasBegun trace y f.epoch r.inst g) (plain_place c trace h f.epoch k.call k.request r.inst r.mode r.file g k.stamp f.me site plain k.was_granted b) b in
        let x : (x : Instance) × (instance_of s r.inst ≡ Some x) = held.instances.has r.inst g here in none_some x.0 (sym new ∙ x.1))

    granted : IsAsGranted c trace f.epoch r.inst r.mode r.file k.stamp f.me
    granted = over (rests.granted f.epoch k.call k.request r.inst r.mode r.file k.stamp f.me k.was_granted)
      where
        over : WasBegun trace f.me f.epoch r.inst r.file ⊎ IsAsGranted c trace f.epoch r.inst r.mode r.file k.stamp f.me → IsAsGranted c trace f.epoch r.inst r.mode r.file k.stamp f.me
        over (inl b) = absurd (unbegun f.me r.file b)
        over (inr g) = g

    may : MayBegin c trace f.me f.epoch r.inst r.file
    may = record { inside = frame.inside; new = unbegun; may = inl (record { at = granted.at; open_at = granted.open_at; file_is = granted.file_is }) }

    versions : VersionsStay c trace after
    versions = versions_stay c n (Begins f.me f.epoch r.inst r.file) trace h may (stays may).0.fresh (stays may).0.order

    copy_is : copy_of s r.file ≡ option_map (copy_for r.file) (option_map (version_of c (entries trace) r.file) k.stamp)
    copy_is = held.copies.are r.file (rests.narrow r.file k.some.0 k.some.1) ∙ ap (λ (o : Option Stamp). option_map (copy_for r.file) (option_map (version_of c (entries trace) r.file) o)) (sym (rests.inside f.epoch f.me r.file frame.inside) ∙ granted.holds)

    work_is : granted.at.work ≡ i.work
    work_is = granted.work_is ∙ (work_on c trace r.mode r.file k.stamp plain (granted_on c trace h f.epoch k.call k.request r.inst r.mode r.file k.stamp f.me k.was_granted)
        ∙ (ap (λ (o : Option FileCopy). begun r.mode (base_of r.mode o (stamp_or_none k.stamp)) (content_of o)) (sym copy_is) ∙ ap (λ (b : Stamp). begun r.mode (base_of r.mode (copy_of s r.file) b) (content_of (copy_of s r.file))) (sym k.base_is)))

    kept_now : r.parents ≡ kept_in c (entries trace) f.epoch r.file
    kept_now = over k.parents_are
      where
        over : ((site : ℕ) × WasBegun trace site f.epoch r.inst r.file) ⊎ (r.parents ≡ kept_in c (entries trace) f.epoch r.file) → r.parents ≡ kept_in c (entries trace) f.epoch r.file
        over (inl b) = absurd (unbegun b.0 r.file b.1)
        over (inr p) = p

    parents_are : r.parents ≡ parents_of (history c (entries trace)) (tree_of c f.epoch r.file.group (entries trace)) granted.at
    parents_are = over (merges r.mode) refl ∙ (ap (λ (w : Work). cond (merges r.mode && is_none w.committed) (kept_in c (entries trace) f.epoch r.file) (list_of w.last)) (sym granted.work_is)
        ∙ (ap (λ (m : Mode). cond (merges m && is_none granted.at.work.committed) (kept_in c (entries trace) f.epoch r.file) (list_of granted.at.work.last)) (sym granted.mode_is)
        ∙ ap (λ (y : FileId). cond (merges granted.at.grant.mode && is_none granted.at.work.committed) (kept_of (history c (entries trace)) (tree_of c f.epoch r.file.group (entries trace)) y) (list_of granted.at.work.last)) (sym granted.file_is)))
      where
        over : (b : Bool) → merges r.mode ≡ b → r.parents ≡ cond (b && true) (kept_in c (entries trace) f.epoch r.file) (list_of k.stamp)
        over true e = kept_now
        over false e = k.alone e

    works : WorksAs c after f i granted.at
    works = record { open_at = record { found = granted.open_at.found; place = granted.open_at.place }; file_is = granted.file_is; mode_is = granted.mode_is; work_is = work_is; parents_are = parents_are }

    unshut : WasShut after f.me f.epoch r.inst → ⊥
    unshut (inl p) = p
    unshut (inr p) = (let b : (g : FileId) × WasBegun trace f.me f.epoch r.inst g = shut_begun c trace h f.me f.epoch r.inst p in unbegun f.me b.0 b.1)

    user : r.inst.us ≤ sites_max
    user = (let d : (d : CallId) × (r.inst.us ≡ d.site) × IsCallIn (entries trace) f.epoch d = named_of c trace h f.epoch r.inst (granted_named trace f.epoch k.call k.request r.inst r.mode r.file k.stamp f.me k.was_granted) in
        subst (λ (u : ℕ). u ≤ sites_max) (sym d.1) (rests.sites f.epoch d.0 d.2))

    -- it finds the bytes of the version on which it was granted
    own_size : (v : Stamp) → k.stamp ≡ Some v → HasSize c after r.file mode.Read k.stamp i.size
    own_size v e = (v, e, held_stands c (entries trace) (followed_rows c trace h) f.me r.file v (sym (rests.inside f.epoch f.me r.file frame.inside) ∙ (granted.holds ∙ e)), sym (ap (λ (o : Option FileCopy). length (content_of o)) (copy_is ∙ ap (λ (o : Option Stamp). option_map (copy_for r.file) (option_map (version_of c (entries trace) r.file) o)) e)))

    size_now : (call : CallId) (request : ℕ) (g : FileId) (stamp : Option Stamp) (site : ℕ) → WasGranted after f.epoch call request r.inst mode.Read g stamp site → HasSize c after g mode.Read stamp i.size
    size_now call request g stamp site (inl p) = absurd p
    size_now call request g stamp site (inr was) = subst (λ (y : FileId). HasSize c after y mode.Read stamp i.size) once.file_is (subst (λ (o : Option Stamp). HasSize c after r.file mode.Read o i.size) once.stamp_is (own_size on.0 (once.stamp_is ∙ on.1)))
      where
        once : AreOne k.call call r.mode mode.Read r.file g k.stamp stamp f.me site
        once = granted_once c trace h f.epoch k.call call k.request request r.inst r.mode mode.Read r.file g k.stamp stamp f.me site k.was_granted was

        on : (v : Stamp) × (stamp ≡ Some v)
        on = granted_on c trace h f.epoch call request r.inst mode.Read g stamp site was

    fact : InstanceFact c after f i
    fact = record {
      begun = inl (record { site_is = refl; epoch_is = refl; serial_is = refl; file_is = refl });
      sized = size_now;
      user = user;
      vector_is = joins_stay c trace after versions r.file r.parents r.vector k.vector_is;
      lies = plain_as c after f i r.mode plain (record { stamp = k.some.0; stands = k.some.1; set_is = k.set_is; kind_is = k.kind_is });
      holds = plain_holds c after f i r.mode plain;
      stage = (inl (granted.at, works), record { fresh = refl; clean = λ e. refl }, unshut);
      answered = refl;
    }
