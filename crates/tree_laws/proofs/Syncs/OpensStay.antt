-- What a table has of opens stays: who asked them, and how far they are.
use Rattle.std.proofs.Common.{◌≡◌, ℕ, Bool, true, false, ◌&&◌, cond, List, [], ◌∷◌, Option, Some, refl, sym, ap, ◌∙◌, subst, ◌⊎◌, inl, inr}
use Rattle.std.specs.Option.{option_map}
use Rattle.locus_ids.specs.declared.config.Config.{Config}
use Rattle.locus_ids.specs.declared.ids.CallId.{CallId}
use Rattle.locus_ids.specs.declared.ids.EpochId.{EpochId}
use Rattle.locus_ids.specs.declared.ids.FileId.{FileId}
use Rattle.locus_ids.specs.declared.ids.Kind.{Kind}
use Rattle.locus_ids.specs.declared.ids.Mode.{Mode}
use Rattle.locus_ids.specs.declared.ids.Mode.TheVariants as mode
use Rattle.locus_ids.specs.declared.ids.Serial.{Serial}
use Rattle.locus_ids.specs.declared.ids.Stamp.{Stamp}
use Rattle.locus_ids.specs.declared.sites.Members.{Members}
use Rattle.locus_ids.specs.declared.sites.Sites.{Sites}
use Rattle.trace_book.specs.Same.{same_epoch, same_serial}
use Rattle.trace_book.specs.declared.call.Call.{Call}
use Rattle.trace_book.specs.declared.record.Record.TheVariants as says
use Rattle.wire_messages.specs.declared.body.Opening.TheVariants as how
use Rattle.role_steps.specs.Opens.{stamp_or_none}
use Rattle.role_steps.specs.Views.{Frame, Told, Shown}
use Rattle.role_steps.specs.declared.synchronizing.OpenRow.{OpenRow}
use Rattle.role_steps.specs.declared.synchronizing.OpenStage.{OpenStage}
use Rattle.role_steps.specs.declared.synchronizing.OpenStage.TheVariants as stage
use Rattle.the_run.specs.Worlds.{Line}
use Rattle.tree_model.specs.declared.accepted.Waiting.{Waiting}
use Rattle.tree_model.specs.Calls.{call_named}
use Rattle.tree_model.specs.Epochs.{members_of}
use Rattle.tree_model.specs.Files.{kind_made, words_named}
use Rattle.tree_model.specs.Opening.{sites_made}
use Rattle.tree_model.specs.Packs.{is_good_set, making_site_in, packs_of}
use Rattle.lawful_trace.specs.TreeRows.{granted_group}
use Rattle.tree_laws.specs.Following.{MayTell, IsFollowed}
use Rattle.tree_laws.specs.Frames.{VersionsStay}
use Rattle.tree_laws.specs.Instances.{AsksOpen}
use Rattle.tree_laws.specs.Packets.{MakesNow, serial_of}
use Rattle.tree_laws.specs.Past.{Printed, WasNamed, WasNamedIn, WasGranted, WasReleased, NamesHere, NamingRecord, GrantRecord, EndRecord}
use Rattle.tree_laws.specs.Printed.{entries}
use Rattle.tree_laws.specs.Tables.{AsItsFile, IsGrantedNow, MakeAsked, AskedFact, StageFact, RowFact}
use Rattle.tree_laws.proofs.CarriedLooks.{More, call_of_stays}
use Rattle.tree_laws.proofs.CarriedOpens.{was_then, named_of, asked_in}
use Rattle.tree_laws.proofs.CarriedSizes.{size_stays}
use Rattle.tree_laws.proofs.CarriedVersions.{joins_stay, sees_stay, plain_stays}
use Rattle.tree_laws.proofs.Kinship.{started_stays}
use Rattle.tree_laws.proofs.Making.{members_told}
use Rattle.tree_laws.proofs.Names.{same_epoch_own, same_serial_own, same_epoch_eq, same_serial_eq}
use Rattle.tree_laws.proofs.Scripts.{named_stays}
use Rattle.tree_laws.proofs.Serials.{unnamed}
use Rattle.tree_laws.specs.Syncs.Staying.{Names, Releases}

-- ---- what was granted ----

grant_names : (e : EpochId) (d : CallId) (request : ℕ) (i : Serial) (m : Mode) (file : FileId) (stamp : Option Stamp) (ss : ℕ) (older : List Line) (x : Told) → Printed (GrantRecord e d request i m file stamp ss) older x → Printed (NamingRecord e i) older x
grant_names e d request i m file stamp ss older (Shown (says.Grant at call number inst how_is g on place)) p = record { epoch_is = p.epoch_is; serial_is = p.serial_is }
grant_names e d request i m file stamp ss older (Shown r) p = absurd p
grant_names e d request i m file stamp ss older x p = absurd p

pub granted_named : (trace : List Line) (e : EpochId) (d : CallId) (request : ℕ) (i : Serial) (m : Mode) (file : FileId) (stamp : Option Stamp) (ss : ℕ) → WasGranted trace e d request i m file stamp ss → WasNamed trace e i
granted_named trace e d request i m file stamp ss w = was_then (Printed (GrantRecord e d request i m file stamp ss)) (Printed (NamingRecord e i)) (grant_names e d request i m file stamp ss) trace w

module _ (e : EpochId) (i : Serial) where
  group_now : (older : List Line) (n : ℕ) (x : Told) (d : CallId) (request : ℕ) (m : Mode) (file : FileId) (stamp : Option Stamp) (ss : ℕ) → Printed (GrantRecord e d request i m file stamp ss) older x → granted_group (entries (More n x older)) e i ≡ file.group
  group_now older n (Shown (says.Grant at call number inst m g on place)) d request mode_is file stamp ss p =
      ap (λ (b : Bool). cond b g.group (granted_group (entries older) e i)) (both (same_epoch at e) (same_serial inst i) (subst (λ (y : EpochId). same_epoch y e ≡ true) (sym p.epoch_is) (same_epoch_own e)) (subst (λ (y : Serial). same_serial y i ≡ true) (sym p.serial_is) (same_serial_own i)))
      ∙ ap (λ (y : FileId). y.group) p.file_is
    where
      both : (a b : Bool) → a ≡ true → b ≡ true → a && b ≡ true
      both true b k l = l
      both false b k l = k
  group_now older n (Shown r) d request m file stamp ss p = absurd p
  group_now older n x d request m file stamp ss p = absurd p

  group_later : (c : Config) (older : List Line) (n : ℕ) (x : Told) → MayTell c older x → WasNamed older e i → granted_group (entries (More n x older)) e i ≡ granted_group (entries older) e i
  group_later c older n (Shown (says.Grant at call number inst m g on place)) may named = over (same_epoch at e) (same_serial inst i) refl refl
    where
      over : (a b : Bool) → same_epoch at e ≡ a → same_serial inst i ≡ b → cond (a && b) g.group (granted_group (entries older) e i) ≡ granted_group (entries older) e i
      over true true p q = absurd (may.in_time.new (subst (λ (j : Serial). WasNamed older at j) (sym (same_serial_eq inst i q)) (subst (λ (y : EpochId). WasNamed older y i) (sym (same_epoch_eq at e p)) named)))
      over true false p q = refl
      over false b p q = refl
  group_later c older n (Shown r) may named = refl
  group_later c older n x may named = refl

  -- the group of an instance is that of its grant
  pub granted_group_is : (c : Config) (trace : List Line) → IsFollowed c trace → (d : CallId) (request : ℕ) (m : Mode) (file : FileId) (stamp : Option Stamp) (ss : ℕ) → WasGranted trace e d request i m file stamp ss → granted_group (entries trace) e i ≡ file.group
  granted_group_is c [] h d request m file stamp ss w = absurd w
  granted_group_is c (x ∷ older) h d request m file stamp ss (inl p) = group_now older x.number x.told d request m file stamp ss p
  granted_group_is c (x ∷ older) h d request m file stamp ss (inr w) = group_later c older x.number x.told h.0 (granted_named older e d request i m file stamp ss w) ∙ granted_group_is c older h.1 d request m file stamp ss w

-- ---- opens of a table ----

module _ (c : Config) (n : ℕ) (x : Told) (older : List Line) (h : IsFollowed c older) (may : MayTell c older x) (v : VersionsStay c older (More n x older)) (f : Frame) (group : ℕ) where
  ends_here : (y : Told) → MayTell c older y → (i : Serial) → granted_group (entries older) f.epoch i ≡ group → Printed (EndRecord f.epoch i) older y → Releases f group y
  ends_here (Shown (says.Release at inst file last)) m i is p = (p.epoch_is, sym (subst (λ (j : Serial). granted_group (entries older) f.epoch j ≡ file.group) p.serial_is (subst (λ (y : EpochId). granted_group (entries older) y inst ≡ file.group) p.epoch_is m.in_time.group_is)) ∙ is)
  ends_here (Shown r) m i is p = absurd p
  ends_here y m i is p = absurd p

  -- what isn't released now stays granted
  abbrev pub IsUnended : OpenRow → Type 0
  IsUnended r = (d : CallId) → WasGranted older f.epoch d r.request r.inst r.mode r.file r.stamp r.ss → Printed (EndRecord f.epoch r.inst) older x → ⊥

  granted_stays : (r : OpenRow) (d : CallId) → IsUnended r → IsGrantedNow older f.epoch r d → IsGrantedNow (More n x older) f.epoch r d
  granted_stays r d unended k = record { was_granted = inr k.was_granted; unreleased = over }
    where
      over : WasReleased (More n x older) f.epoch r.inst → ⊥
      over (inl p) = unended d k.was_granted p
      over (inr q) = k.unreleased q

  -- the same make
  abbrev StaysMade : (ss : ℕ) (i : Serial) (set : Sites) (kind : Kind) → MakesNow c older f.epoch ss i group set kind → Type 0
  StaysMade ss i set kind now = (m : MakesNow c (More n x older) f.epoch ss i group set kind) × (m.call ≡ now.call) × (m.request ≡ now.request) × (m.file ≡ now.file)

  -- a make that is asked in the group, and isn't named now, is asked still
  make_stays : (ss : ℕ) (i : Serial) (set : Sites) (kind : Kind) → (Printed (NamesHere f.epoch group i) older x → ⊥) → (now : MakesNow c older f.epoch ss i group set kind) → StaysMade ss i set kind now
  make_stays ss i set kind unnamed_now now = over (asked_in c n x older f.epoch i.us i.serial now.call now.request now.file (how.Make set kind) h may (sym now.user_is) now.asks)
    where
      members : members_of (entries (More n x older)) f.epoch ≡ members_of (entries older) f.epoch
      members = members_told c n x older f.epoch now.call may now.asks.inside

      named : WasNamedIn (More n x older) f.epoch now.file.group i → ⊥
      named w = in_group (subst (λ (g : ℕ). WasNamedIn (More n x older) f.epoch g i) now.group_is w)
        where
          in_group : WasNamedIn (More n x older) f.epoch group i → ⊥
          in_group (inl p) = unnamed_now p
          in_group (inr p) = unnamed c older f.epoch now.call now.request i now.file (how.Make set kind) h now.asks now.user_is (named_of older f.epoch group i p)

      over : WasNamedIn (More n x older) f.epoch now.file.group (serial_of i.us i.serial) ⊎ AsksOpen c (More n x older) f.epoch now.call now.request i.serial now.file (how.Make set kind) → StaysMade ss i set kind now
      over (inl p) = absurd (named p)
      over (inr asks) = (
        record {
          call = now.call;
          request = now.request;
          file = now.file;
          asks = asks;
          user_is = now.user_is;
          group_is = now.group_is;
          good = subst (λ (o : Option Members). is_good_set c group o set ≡ true) (sym members) now.good;
          at = subst (λ (o : Option Members). making_site_in c group o now.call.site set ≡ Some ss) (sym members) now.at;
          started = started_stays c n x older f.epoch group now.started;
        },
        refl,
        refl,
        refl,
      )

  make_asked_stays : (r : OpenRow) (d : CallId) → (Printed (NamesHere f.epoch group r.inst) older x → ⊥) → r.file.group ≡ group → MakeAsked c older f.epoch r d → MakeAsked c (More n x older) f.epoch r d
  make_asked_stays r d unnamed_now is k = over (at_group r.file.group is k.make k.call_is k.request_is k.file_is)
    where
      at_group : (g : ℕ) → g ≡ group → (m : MakesNow c older f.epoch r.ss r.inst g r.set r.kind) → m.call ≡ d → m.request ≡ r.request → m.file ≡ r.file → (z : MakesNow c (More n x older) f.epoch r.ss r.inst g r.set r.kind) × (z.call ≡ d) × (z.request ≡ r.request) × (z.file ≡ r.file)
      at_group g e = subst (λ (h2 : ℕ). (m : MakesNow c older f.epoch r.ss r.inst h2 r.set r.kind) → m.call ≡ d → m.request ≡ r.request → m.file ≡ r.file → (z : MakesNow c (More n x older) f.epoch r.ss r.inst h2 r.set r.kind) × (z.call ≡ d) × (z.request ≡ r.request) × (z.file ≡ r.file)) (sym e)
          (λ m p q s. let z = make_stays r.ss r.inst r.set r.kind unnamed_now m in (z.0, z.1 ∙ p, z.2 ∙ q, z.3 ∙ s))

      over : (z : MakesNow c (More n x older) f.epoch r.ss r.inst r.file.group r.set r.kind) × (z.call ≡ d) × (z.request ≡ r.request) × (z.file ≡ r.file) → MakeAsked c (More n x older) f.epoch r d
      over z = record { make = z.0; call_is = z.1; request_is = z.2; file_is = z.3; parents_are = k.parents_are; stamp_is = k.stamp_is }

  asked_stays : (r : OpenRow) (d : CallId) (m : Mode) → (Printed (NamesHere f.epoch group r.inst) older x → ⊥) → IsUnended r → r.file.group ≡ group → AskedFact c older f.epoch r d m → AskedFact c (More n x older) f.epoch r d m
  asked_stays r d mode.Make unnamed_now unended is k = make_asked_stays r d unnamed_now is k
  asked_stays r d mode.Read unnamed_now unended is k = (granted_stays r d unended k.0, plain_stays c n x older v f.epoch r.ss r.inst r.file mode.Read r.set r.kind (stamp_or_none r.stamp) r.vector r.parents k.1)
  asked_stays r d mode.Write unnamed_now unended is k = (granted_stays r d unended k.0, plain_stays c n x older v f.epoch r.ss r.inst r.file mode.Write r.set r.kind (stamp_or_none r.stamp) r.vector r.parents k.1)
  asked_stays r d mode.Resolve unnamed_now unended is k = (granted_stays r d unended k.0, plain_stays c n x older v f.epoch r.ss r.inst r.file mode.Resolve r.set r.kind (stamp_or_none r.stamp) r.vector r.parents k.1)
  asked_stays r d mode.Mend unnamed_now unended is k = (granted_stays r d unended k.0, plain_stays c n x older v f.epoch r.ss r.inst r.file mode.Mend r.set r.kind (stamp_or_none r.stamp) r.vector r.parents k.1)

  -- its call says what it said, and its file is as it was
  file_stays : (r : OpenRow) (d : CallId) → (w : Waiting) × (call_named (entries older) d ≡ Some w) → (m : Mode) → AsItsFile c older r d m → AsItsFile c (More n x older) r d m
  file_stays r d named mode.Make k = (k.0 ∙ sym (ap (λ (o : Option Call). sites_made (packs_of c r.file.group) o) words), k.1 ∙ sym (ap kind_made words))
    where
      words : words_named (entries (More n x older)) (Some d) ≡ words_named (entries older) (Some d)
      words = ap (option_map (λ (w : Waiting). w.words)) (named_stays c n x older d h may named)
  file_stays r d named mode.Read k = (k.0, v.stands r.file k.0 k.1, k.2 ∙ sym (v.sets r.file k.0 k.1), k.3 ∙ sym (v.kinds r.file k.0 k.1))
  file_stays r d named mode.Write k = (k.0, v.stands r.file k.0 k.1, k.2 ∙ sym (v.sets r.file k.0 k.1), k.3 ∙ sym (v.kinds r.file k.0 k.1))
  file_stays r d named mode.Resolve k = (k.0, v.stands r.file k.0 k.1, k.2 ∙ sym (v.sets r.file k.0 k.1), k.3 ∙ sym (v.kinds r.file k.0 k.1))
  file_stays r d named mode.Mend k = (k.0, v.stands r.file k.0 k.1, k.2 ∙ sym (v.sets r.file k.0 k.1), k.3 ∙ sym (v.kinds r.file k.0 k.1))

  stage_stays : (r : OpenRow) (d : CallId) (w : (w : Waiting) × (call_named (entries older) d ≡ Some w)) (s : OpenStage) → (Printed (NamesHere f.epoch group r.inst) older x → ⊥) → IsUnended r → r.file.group ≡ group → StageFact c older f.epoch r d s → StageFact c (More n x older) f.epoch r d s
  stage_stays r d named stage.Asked unnamed_now unended is k = asked_stays r d r.mode unnamed_now unended is k
  stage_stays r d named stage.Granted unnamed_now unended is k = (granted_stays r d unended k.0, file_stays r d named r.mode k.1, size_stays c older (More n x older) v r.file r.mode r.stamp r.size k.2)
  stage_stays r d named (stage.Refused why) unnamed_now unended is k = inr k
  stage_stays r d named stage.Ended unnamed_now unended is k = (inr k.0, inr k.1)

  -- an open stays as it is where what is told neither names nor releases it
  pub open_row_goes_on : (r : OpenRow) → (Printed (NamesHere f.epoch group r.inst) older x → ⊥) → IsUnended r → RowFact c older f.epoch group r → RowFact c (More n x older) f.epoch group r
  open_row_goes_on r unnamed_now unended k = record {
    call = k.call;
    is_call = call_of_stays c n x older h may f.epoch r.inst.us r.call r.process k.call k.is_call;
    group_is = k.group_is;
    stage = stage_stays r k.call (k.is_call.caller, k.is_call.named) r.stage unnamed_now unended k.group_is k.stage;
    vector_is = joins_stay c older (More n x older) v r.file r.parents r.vector k.vector_is;
    sees = sees_stay c older (More n x older) v r.file r.mode r.stamp r.vector k.sees;
  }

  -- and so does each where nothing of the group is released
  pub open_row_stays : (Releases f group x → ⊥) → (r : OpenRow) → (Printed (NamesHere f.epoch group r.inst) older x → ⊥) → RowFact c older f.epoch group r → RowFact c (More n x older) f.epoch group r
  open_row_stays unreleased_here r unnamed_now k = open_row_goes_on r unnamed_now (λ d was p. unreleased_here (ends_here x may r.inst (granted_group_is f.epoch r.inst c older h d r.request r.mode r.file r.stamp r.ss was ∙ k.group_is) p)) k

-- what names an open of the group names it for its table
pub names_here : (older : List Line) (f : Frame) (group : ℕ) (i : Serial) (x : Told) → Printed (NamesHere f.epoch group i) older x → Names f group x
names_here older f group i (Shown (says.Grant at call request inst m file on place)) q = (q.0.epoch_is, q.1)
names_here older f group i (Shown (says.Refuse at call request inst m file why)) q = (q.0.epoch_is, q.1)
names_here older f group i (Shown r) q = absurd q
names_here older f group i x q = absurd q

pub names_stay : (n : ℕ) (older : List Line) (f : Frame) (group : ℕ) (x : Told) → (Names f group x → ⊥) → (i : Serial) → WasNamedIn (More n x older) f.epoch group i → WasNamedIn older f.epoch group i
names_stay n older f group x unnamed_now i (inl p) = absurd (unnamed_now (names_here older f group i x p))
names_stay n older f group x unnamed_now i (inr q) = q
