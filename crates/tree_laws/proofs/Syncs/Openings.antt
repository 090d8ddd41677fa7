-- What a synchronization site tells of an open of a file that stands, granted or refused, is lawful where the tree gives it, and
-- its table has it then.
use Rattle.std.proofs.Common.{◌≡◌, ℕ, zero, suc, ◌+◌, ◌==◌, Bool, true, false, not, ◌&&◌, cond, List, [], ◌∷◌, ◌++◌, filter, length, map, Option, None, refl, sym, ap, ◌∙◌, subst, inl, inr, ⊎_elim, arith}
use Rattle.std.proofs.lemmas.Bool.Decides.{nat_tests}
use Rattle.std.specs.Prelude.{replicate}
use Rattle.std.specs.Option.{is_none, option_map}
use Rattle.role_steps.proofs.of_plain_facts.Numbers.{equal_self}
use Rattle.role_steps.proofs.of_plain_facts.Tests.{and_true, true_false}
use Rattle.locus_ids.specs.declared.config.Config.{Config}
use Rattle.locus_ids.specs.declared.ids.CallId.{CallId}
use Rattle.locus_ids.specs.declared.ids.EpochId.{EpochId}
use Rattle.locus_ids.specs.declared.ids.FileId.{FileId}
use Rattle.locus_ids.specs.declared.ids.Kind.{Kind}
use Rattle.locus_ids.specs.declared.ids.Mode.{Mode}
use Rattle.locus_ids.specs.declared.ids.Mode.TheVariants as mode
use Rattle.locus_ids.specs.declared.ids.Serial.{Serial}
use Rattle.locus_ids.specs.declared.ids.Stamp.{Stamp}
use Rattle.locus_ids.specs.declared.refusal.Refusal.{Refusal}
use Rattle.locus_ids.specs.declared.sites.Sites.{Sites}
use Rattle.locus_ids.specs.Sizes.{sites_max}
use Rattle.version_vector.specs.Counters.{part}
use Rattle.commit_graph.specs.Grants.{Opener}
use Rattle.commit_graph.specs.Versions.{same_file}
use Rattle.dir_format.specs.Entries.{nothing_seen}
use Rattle.trace_book.specs.Same.{same_epoch}
use Rattle.trace_book.specs.declared.call.OpenMode.{OpenMode}
use Rattle.trace_book.specs.declared.call.OpenMode.TheVariants as words
use Rattle.trace_book.specs.declared.operation.What.{What}
use Rattle.call_rules.specs.declared.want.Want.{Want}
use Rattle.call_rules.specs.declared.want.Want.TheVariants as want
use Rattle.wire_messages.specs.declared.body.Opening.{Opening}
use Rattle.wire_messages.specs.declared.body.Opening.TheVariants as how
use Rattle.role_steps.specs.Opens.{OpenRequest, mode_of, open_key, with_open, call_id, stamp_or_none, asks_storage, grant_record, refuse_record, refuses_row, asks_row, denied_row, asked_row, granted_at_once, is_open_on}
use Rattle.role_steps.specs.Requests.{opening_of}
use Rattle.role_steps.specs.Tables.{row}
use Rattle.role_steps.specs.Views.{Frame, Told, Outcome, boot_in, serial_key}
use Rattle.role_steps.specs.declared.synchronizing.OpenRow.{OpenRow}
use Rattle.role_steps.specs.declared.synchronizing.SyncTable.{SyncTable}
use Rattle.the_run.specs.Worlds.{Line}
use Rattle.tree_model.specs.declared.accepted.Waiting.{Waiting}
use Rattle.tree_model.specs.declared.instance.Instance.{Instance}
use Rattle.tree_model.specs.Epochs.{has_joined}
use Rattle.tree_model.specs.Files.{kind_of_file, set_of_file}
use Rattle.tree_model.specs.Given.{gives_refusal}
use Rattle.tree_model.specs.Histories.{history}
use Rattle.tree_model.specs.Opening.{is_placed, open_refusal}
use Rattle.tree_model.specs.State.{TreeState, is_granted, process_of}
use Rattle.tree_model.specs.Tree.{tree_of, kept_in, grant_of, opened, without_make}
use Rattle.tree_model.specs.Working.{list_of, merges}
use Rattle.lawful_trace.specs.Progress.{answers, wants_next}
use Rattle.lawful_trace.specs.TreeRows.{MayOpen, is_open_of, is_served}
use Rattle.tree_laws.specs.Calls.{request_number}
use Rattle.tree_laws.specs.Doing.{TableFine}
use Rattle.tree_laws.specs.Following.{MayTell, MakesInTime, OpensInTime, RefusesMake}
use Rattle.tree_laws.specs.Frames.{VersionsStay}
use Rattle.tree_laws.specs.Instances.{AsksOpen, IsOpening, Stands}
use Rattle.tree_laws.specs.Packets.{IsCallOf, JoinsParents, OpenSsFact, PlainOpenSs, SeesVersion, file_in}
use Rattle.tree_laws.specs.Past.{Printed, WasNamed, WasReleased, WasRefused, WasGranted, NamesHere}
use Rattle.tree_laws.specs.Printed.{entries}
use Rattle.tree_laws.specs.Tables.{AskedFact, IsGrantedNow, RowFact, named_instance, named_openers, named_row, tree_openers}
use Rattle.tree_laws.proofs.CarriedLooks.{More, call_of_stays}
use Rattle.tree_laws.proofs.CarriedVersions.{joins_stay, sees_stay}
use Rattle.tree_laws.proofs.Hearing.{asks_next}
use Rattle.tree_laws.proofs.Kinship.{tree_epoch_is, tree_group_is}
use Rattle.tree_laws.proofs.Names.{true_or_false, same_epoch_own}
use Rattle.tree_laws.proofs.Serials.{unnamed}
use Rattle.tree_laws.proofs.Versions.{versions_stay}
use Rattle.tree_laws.specs.Syncs.Opening.{IsPlainOpening}
use Rattle.tree_laws.specs.Syncs.Serving.{Serving}
use Rattle.tree_laws.specs.Syncs.Staying.{FilesStay}
use Rattle.tree_laws.proofs.Syncs.Adding.{added_table, latest_new, openers_added}
use Rattle.tree_laws.proofs.Syncs.Files.{kept_told}
use Rattle.tree_laws.proofs.Syncs.Members.{members_name_boots, table_boot}
use Rattle.tree_laws.proofs.Syncs.Looks.{group_served}
use Rattle.tree_laws.proofs.Syncs.TreeCalls.{call_in_is, granted_was_named, released_was_named}
use Rattle.tree_laws.proofs.Syncs.Trees.{same_if}

-- ---- words ----

pub file_own : (f g : FileId) → f ≡ g → same_file g f ≡ true
file_own f g e = subst (λ (x : FileId). same_file x f ≡ true) e (own f)
  where
    own : (x : FileId) → same_file x x ≡ true
    own x = grind (arith, nat_tests)

asked_mode : (f g : FileId) (m : OpenMode) → f ≡ g → is_open_of (mode_of (opening_of m)) f (want.Open g m) ≡ true
asked_mode f g words.Read e = file_own f g e
asked_mode f g words.Write e = file_own f g e
asked_mode f g (words.Resolve site) e = file_own f g e
asked_mode f g words.Steady e = file_own f g e

-- what a call asks is this open
pub opening_asked : (c : Config) (w : Want) (f : FileId) (q : Opening) → IsOpening c w f q → is_open_of (mode_of q) f w ≡ true
opening_asked c (want.Open g m) f q o = subst (λ (x : Opening). is_open_of (mode_of x) f (want.Open g m) ≡ true) (sym o.1) (asked_mode f g m o.0)
opening_asked c (want.OpenToMend g) f q o = subst (λ (x : Opening). is_open_of (mode_of x) f (want.OpenToMend g) ≡ true) (sym o.1) (file_own f g o.0)
opening_asked c (want.Make group k sites) f q o = subst (λ (x : Opening). is_open_of (mode_of x) f (want.Make group k sites) ≡ true) (sym o.2) (subst (λ (g : ℕ). (g == f.group) ≡ true) o.0 (equal_self f.group))
opening_asked c (want.Look g w) f q o = absurd o
opening_asked c (want.Do i op) f q o = absurd o
opening_asked c (want.Close i) f q o = absurd o
opening_asked c (want.Give r) f q o = absurd o
opening_asked c want.Never f q o = absurd o

plain_makes : (trace : List Line) (e : EpochId) (i : Serial) (f : FileId) (ss : ℕ) (q : Opening) → IsPlainOpening q → MakesInTime trace e i f ss (mode_of q)
plain_makes trace e i f ss how.Read p = tt
plain_makes trace e i f ss how.Write p = tt
plain_makes trace e i f ss (how.Resolve site) p = tt
plain_makes trace e i f ss how.Mend p = tt
plain_makes trace e i f ss (how.Make set k) p = absurd p

pub plain_refuses : (c : Config) (trace : List Line) (e : EpochId) (d : CallId) (i : Serial) (f : FileId) (why : Refusal) (q : Opening) → IsPlainOpening q → RefusesMake c trace e d i f why q
plain_refuses c trace e d i f why how.Read p = tt
plain_refuses c trace e d i f why how.Write p = tt
plain_refuses c trace e d i f why (how.Resolve site) p = tt
plain_refuses c trace e d i f why how.Mend p = tt
plain_refuses c trace e d i f why (how.Make set k) p = absurd p

pub none_seen : (n s : ℕ) → part (replicate n 0) s ≡ 0
none_seen zero s = refl
none_seen (suc n) zero = refl
none_seen (suc n) (suc s) = none_seen n s

sees_none : (c : Config) (trace : List Line) (f : FileId) (m : Mode) (vector : List ℕ) → SeesVersion c trace f m None vector
sees_none c trace f mode.Read vector = tt
sees_none c trace f mode.Write vector = tt
sees_none c trace f mode.Resolve vector = tt
sees_none c trace f mode.Mend vector = tt
sees_none c trace f mode.Make vector = tt

plain_asked : (c : Config) (trace : List Line) (e : EpochId) (r : OpenRow) (d : CallId) (q : Opening) → IsPlainOpening q → IsGrantedNow trace e r d → PlainOpenSs c trace e r.ss r.inst r.file (mode_of q) r.set r.kind (stamp_or_none r.stamp) r.vector r.parents → AskedFact c trace e r d (mode_of q)
plain_asked c trace e r d how.Read p k l = (k, l)
plain_asked c trace e r d how.Write p k l = (k, l)
plain_asked c trace e r d (how.Resolve site) p k l = (k, l)
plain_asked c trace e r d how.Mend p k l = (k, l)
plain_asked c trace e r d (how.Make set kind) p k l = absurd p

plain_sent : (c : Config) (trace : List Line) (e : EpochId) (ss : ℕ) (i : Serial) (f : FileId) (q : Opening) (set : Sites) (k : Kind) (base : _) (vector : List ℕ) (parents : List Stamp) → IsPlainOpening q → PlainOpenSs c trace e ss i f (mode_of q) set k base vector parents → OpenSsFact c trace e ss i f (mode_of q) set k base vector parents
plain_sent c trace e ss i f how.Read set k base vector parents p l = l
plain_sent c trace e ss i f how.Write set k base vector parents p l = l
plain_sent c trace e ss i f (how.Resolve site) set k base vector parents p l = l
plain_sent c trace e ss i f how.Mend set k base vector parents p l = l
plain_sent c trace e ss i f (how.Make set2 kind) set k base vector parents p l = absurd p

plain_told : (f : Frame) (r : OpenRow) (q : Opening) → IsPlainOpening q → granted_at_once f r (mode_of q) ≡ grant_record f r ∷ []
plain_told f r how.Read p = refl
plain_told f r how.Write p = refl
plain_told f r (how.Resolve site) p = refl
plain_told f r how.Mend p = refl
plain_told f r (how.Make set k) p = absurd p

pub nil_after : {A : Type 0} (xs : List A) → xs ++ [] ≡ xs
nil_after [] = refl
nil_after (x ∷ xs) = ap (λ ys. x ∷ ys) (nil_after xs)

-- ---- what the tree gives ----

-- the tree grants the open here, on this version; and so is what the storage site is asked
pub record IsGiven (c : Config) (trace : List Line) (e : EpochId) (d : CallId) (m : Mode) (file : FileId) (ss : ℕ) (stamp : Option Stamp) (vector : List ℕ) (parents : List Stamp) (set : Sites) (k : Kind) : Type 0 where
  pub unrefused : open_refusal (history c (entries trace)) (tree_of c e file.group (entries trace)) m d file ≡ None
  pub placed : is_placed (history c (entries trace)) (tree_of c e file.group (entries trace)) d m file stamp ss ≡ true
  pub there : has_joined (entries trace) ss e ≡ true
  pub some : Stamp
  pub stands : Stands c trace file some
  pub set_is : set ≡ set_of_file c (entries trace) file
  pub kind_is : k ≡ kind_of_file c (entries trace) file
  pub vector_is : JoinsParents c trace file parents vector
  pub parents_are : parents ≡ kept_in c (entries trace) e file
  pub alone : merges m ≡ false → parents ≡ list_of stamp
  pub sees : SeesVersion c trace file m stamp vector

-- ---- the open of a call ----

module _ (c : Config) (n : ℕ) (trace : List Line) (f : Frame) (tab : SyncTable) (sv : Serving c n trace f tab) (started : tab.started ≡ true) (us serial number process request : ℕ) (file : FileId) (group_is : file.group ≡ tab.group) (call : CallId) (is_call : IsCallOf trace f.epoch us number process call) where
  abbrev d : CallId
  d = call_id f us number

  abbrev inst : Serial
  inst = record { us = us; serial = serial }

  abbrev pub request_as : Opening → OpenRequest
  request_as q = record { serial = serial; call = number; process = process; request = request; file = file; how = q }

  pub its : d ≡ call
  its = λ i. record { site = sym is_call.site_is i; boot = boot i; n = sym is_call.number_is i }
    where
      boot : boot_in f.members.boot us ≡ call.boot
      boot = subst (λ (s : ℕ). boot_in f.members.boot s ≡ call.boot) is_call.site_is (table_boot f.members call.site ∙ members_name_boots c trace sv.followed f.epoch call f.members is_call.inside sv.frame.members_are)

  pub here : IsCallOf trace f.epoch us number process d
  here = subst (IsCallOf trace f.epoch us number process) (sym its) is_call

  pub file_is : file_in tab.group file.ino ≡ file
  file_is = λ i. record { group = sym group_is i; ino = file.ino }

  abbrev t : TreeState
  t = tree_of c f.epoch file.group (entries trace)

  pub is_started : t.started ≡ true
  is_started = subst (λ (g : ℕ). (tree_of c f.epoch g (entries trace)).started ≡ true) (sym group_is) (sym sv.table.started ∙ started)

  abbrev tab_tree : TreeState
  tab_tree = tree_of c f.epoch tab.group (entries trace)

  module _ (q : Opening) (asks : AsksOpen c trace f.epoch d request serial file q) (none : row open_key (serial_key inst) tab.opens ≡ None) where
    not_look : (g : FileId) (w : What) → asks.wanted ≡ want.Look g w → ⊥
    not_look g w e = subst (λ (v : Want). IsOpening c v file q) e asks.opening_is

    next_is : (wants_next c (entries trace) d ≡ asks.wanted) × (request_number trace d ≡ length (answers c (entries trace) d) + 1)
    next_is = asks_next c trace d asks.wanted sv.followed asks.asks not_look

    unnamed_yet : WasNamed trace f.epoch inst → ⊥
    unnamed_yet = unnamed c trace f.epoch d request inst file q sv.followed asks refl

    opens_row : MayOpen c (entries trace) f.epoch d request (mode_of q) file
    opens_row = record {
      served = subst (λ (g : ℕ). is_served c (entries trace) f.epoch g ≡ true) (sym group_is) (group_served c n trace f tab sv);
      step = here.inside;
      numbered = asks.request_is ∙ next_is.1;
      asked = subst (λ (w : Want). is_open_of (mode_of q) file w ≡ true) (sym next_is.0) (opening_asked c asks.wanted file q asks.opening_is);
    }

    abbrev in_time : OpensInTime c trace f.epoch d request inst (mode_of q) file
    in_time = record { asked = file; it = q; mode_is = refl; asks = asks; user_is = refl; group_is = refl }

    added_openers : (r : OpenRow) (ino : ℕ) → (ino ≡ 0 → ⊥) → open_key r ≡ serial_key inst → named_openers (with_open r tab) (file_in tab.group ino) ≡ tree_openers tab_tree (file_in tab.group ino) ++ cond (is_open_on (file_in tab.group ino) r) (named_row r ∷ []) []
    added_openers r ino some e =
        ap (λ (rs : List OpenRow). map named_row (filter (is_open_on (file_in tab.group ino)) rs)) (latest_new open_key r tab.opens (ap (λ (k : ℕ). row open_key k tab.opens) e ∙ none))
        ∙ (openers_added (is_open_on (file_in tab.group ino)) named_row tab.opens r
        ∙ ap (λ (os : List (Serial × Opener)). os ++ cond (is_open_on (file_in tab.group ino) r) (named_row r ∷ []) []) (sv.table.openers_are ino some))

    -- ---- it is refused ----

    module _ (why : Refusal) (make : RefusesMake c trace f.epoch d inst file why q) (gives : gives_refusal (history c (entries trace)) t d (mode_of q) file why ≡ true) where
      abbrev denied : OpenRow
      denied = denied_row us (request_as q) why

      abbrev x : Told
      x = refuse_record f denied why

      may : MayTell c trace x
      may = record {
        row = record { opens = opens_row; gives = gives };
        in_time = record { opens = in_time; make = make; new = unnamed_yet };
      }

      stay : FilesStay c trace (More n x trace) x
      stay = sv.stay x may (refl, group_is)

      refused : WasRefused (More n x trace) f.epoch d request inst (mode_of q) why
      refused = inl (record { epoch_is = refl; call_is = refl; request_is = refl; serial_is = refl; mode_is = refl; reason_is = refl })

      fact : RowFact c (More n x trace) f.epoch tab.group denied
      fact = record {
        call = d;
        is_call = call_of_stays c n x trace sv.followed may f.epoch us number process d here;
        group_is = group_is;
        stage = refused;
        vector_is = (none_seen sites_max, refl);
        sees = sees_none c (More n x trace) file (mode_of q) nothing_seen;
      }

      names_it : (i : Serial) → Printed (NamesHere f.epoch tab.group i) trace x → i ≡ inst
      names_it i p = sym p.0.serial_is

      openers_now : (ino : ℕ) → (ino ≡ 0 → ⊥) → named_openers (with_open denied tab) (file_in tab.group ino) ≡ tree_openers (tree_of c f.epoch tab.group (entries (More n x trace))) (file_in tab.group ino)
      openers_now ino some = added_openers denied ino some refl ∙ (closed (same_file file (file_in tab.group ino)) ∙ sym (same_if (λ (u : TreeState). tree_openers u (file_in tab.group ino)) _ (record tab_tree { makes = without_make d tab_tree.makes }) tab_tree (λ b. refl)))
        where
          closed : (b : Bool) → tree_openers tab_tree (file_in tab.group ino) ++ cond (b && false) (named_row denied ∷ []) [] ≡ tree_openers tab_tree (file_in tab.group ino)
          closed true = nil_after (tree_openers tab_tree (file_in tab.group ino))
          closed false = nil_after (tree_openers tab_tree (file_in tab.group ino))

      pub refused_as : TableFine c n trace f tab.group (refuses_row f denied why tab)
      refused_as = record {
        told = (may, tt);
        own = ((refl, group_is), tt);
        view = record { group_is = refl; table = added_table c n trace f tab sv x may stay denied (λ k. k) (λ k. k) (λ k. k) (λ k. k) names_it none fact openers_now };
        sent = ((d, request, mode_of q, refused), tt);
        written = tt;
      }

    -- ---- it is granted ----

    module _ (plain : IsPlainOpening q) (ss : ℕ) (stamp : Option Stamp) (vector : List ℕ) (parents : List Stamp) (set : Sites) (k : Kind) (given : IsGiven c trace f.epoch d (mode_of q) file ss stamp vector parents set k) where
      abbrev asked : OpenRow
      asked = asked_row us (request_as q) ss stamp vector parents set k

      abbrev y : Told
      y = grant_record f asked

      not_granted : not (is_granted t inst) ≡ true
      not_granted = ⊎_elim (λ (e : is_granted t inst ≡ true). absurd (unnamed_yet (granted_was_named c trace f.epoch file.group inst e))) (λ (e : is_granted t inst ≡ false). ap not e) (true_or_false (is_granted t inst))

      may_grant : MayTell c trace y
      may_grant = record {
        row = record {
          opens = opens_row;
          gives = and_true t.started _ is_started (and_true (is_none (open_refusal (history c (entries trace)) t (mode_of q) d file)) _ (ap is_none given.unrefused) (and_true (us == us) _ (equal_self us) (and_true (not (is_granted t inst)) _ not_granted given.placed)));
          there = given.there;
        };
        in_time = record { opens = in_time; makes = plain_makes trace f.epoch inst file ss q plain; new = unnamed_yet };
      }

      stay_grant : FilesStay c trace (More n y trace) y
      stay_grant = sv.stay y may_grant (refl, group_is)

      vs : VersionsStay c trace (More n y trace)
      vs = versions_stay c n y trace sv.followed may_grant stay_grant.stay.fresh stay_grant.stay.order

      was_granted : WasGranted (More n y trace) f.epoch d request inst (mode_of q) file stamp ss
      was_granted = inl (record { epoch_is = refl; call_is = refl; request_is = refl; serial_is = refl; mode_is = refl; file_is = refl; stamp_is = refl; place_is = refl })

      granted_now : IsGrantedNow (More n y trace) f.epoch asked d
      granted_now = record { was_granted = was_granted; unreleased = over }
        where
          over : WasReleased (More n y trace) f.epoch inst → ⊥
          over (inl p) = p
          over (inr w) = unnamed_yet (released_was_named c trace f.epoch inst sv.followed w)

      kept_same : kept_in c (entries (More n y trace)) f.epoch file ≡ kept_in c (entries trace) f.epoch file
      kept_same = subst (λ (g : FileId). kept_in c (entries (More n y trace)) f.epoch g ≡ kept_in c (entries trace) f.epoch g) file_is (kept_told c n trace sv.followed f tab.group stay_grant.packs (sym sv.table.started ∙ started) y may_grant stay_grant.stay.fresh (λ k. k) file.ino)

      opens_ss : PlainOpenSs c (More n y trace) f.epoch ss inst file (mode_of q) set k (stamp_or_none stamp) vector parents
      opens_ss = record {
        call = d;
        request = request;
        stamp = stamp;
        was_granted = was_granted;
        base_is = refl;
        some = (given.some, vs.stands file given.some given.stands);
        set_is = given.set_is ∙ sym (vs.sets file given.some given.stands);
        kind_is = given.kind_is ∙ sym (vs.kinds file given.some given.stands);
        alone = given.alone;
        vector_is = joins_stay c trace (More n y trace) vs file parents vector given.vector_is;
        parents_are = inr (given.parents_are ∙ sym kept_same);
      }

      fact_granted : RowFact c (More n y trace) f.epoch tab.group asked
      fact_granted = record {
        call = d;
        is_call = call_of_stays c n y trace sv.followed may_grant f.epoch us number process d here;
        group_is = group_is;
        stage = plain_asked c (More n y trace) f.epoch asked d q plain granted_now opens_ss;
        vector_is = joins_stay c trace (More n y trace) vs file parents vector given.vector_is;
        sees = sees_stay c trace (More n y trace) vs file (mode_of q) stamp vector given.sees;
      }

      names_granted : (i : Serial) → Printed (NamesHere f.epoch tab.group i) trace y → i ≡ inst
      names_granted i p = sym p.0.serial_is

      -- the instance that the tree opens
      abbrev new : Instance
      new = opened (history c (entries trace)) (grant_of tab_tree d inst (mode_of q) file ss) stamp

      opener_same : named_row asked ≡ named_instance new
      opener_same = ap (λ (p : ℕ). (inst, record { site = us; process = p; mode = mode_of q })) (sym (ap process_of (call_in_is c f.epoch tab.group (entries trace) d ∙ ap (option_map (λ (w : Waiting). record { call = w.call; process = w.process; words = w.words })) here.named) ∙ here.process_is))

      openers_granted : (ino : ℕ) → (ino ≡ 0 → ⊥) → named_openers (with_open asked tab) (file_in tab.group ino) ≡ tree_openers (tree_of c f.epoch tab.group (entries (More n y trace))) (file_in tab.group ino)
      openers_granted ino some = added_openers asked ino some refl ∙ (alike (same_file file (file_in tab.group ino)) ∙ sym (opens_one (same_epoch f.epoch tab_tree.epoch) epoch_own (file.group == tab_tree.group) group_own))
        where
          epoch_own : same_epoch f.epoch tab_tree.epoch ≡ true
          epoch_own = subst (λ (e : EpochId). same_epoch f.epoch e ≡ true) (sym (tree_epoch_is c f.epoch tab.group (entries trace))) (same_epoch_own f.epoch)

          group_own : (file.group == tab_tree.group) ≡ true
          group_own = subst (λ (g : ℕ). (file.group == g) ≡ true) (group_is ∙ sym (tree_group_is c f.epoch tab.group (entries trace))) (equal_self file.group)

          alike : (b : Bool) → tree_openers tab_tree (file_in tab.group ino) ++ cond (b && true) (named_row asked ∷ []) [] ≡ tree_openers tab_tree (file_in tab.group ino) ++ cond b (named_instance new ∷ []) []
          alike true = ap (λ (o : Serial × Opener). tree_openers tab_tree (file_in tab.group ino) ++ o ∷ []) opener_same
          alike false = refl

          opens_one : (a : Bool) → a ≡ true → (b : Bool) → b ≡ true → tree_openers (cond a (record tab_tree { grants = tab_tree.grants ++ grant_of tab_tree d inst (mode_of q) file ss ∷ []; instances = cond b (tab_tree.instances ++ new ∷ []) tab_tree.instances }) tab_tree) (file_in tab.group ino)
              ≡ tree_openers tab_tree (file_in tab.group ino) ++ cond (same_file file (file_in tab.group ino)) (named_instance new ∷ []) []
          opens_one true e true g = openers_added (λ (z : Instance). same_file z.grant.file (file_in tab.group ino)) named_instance tab_tree.instances new
          opens_one true e false g = absurd (true_false (sym g))
          opens_one false e b g = absurd (true_false (sym e))

      abbrev outcome : List Told → Outcome SyncTable
      outcome told = record { view = with_open asked tab; sent = asks_storage f asked; told = told; written = None }

      told_fine : TableFine c n trace f tab.group (outcome (y ∷ []))
      told_fine = record {
        told = (may_grant, tt);
        own = ((refl, group_is), tt);
        view = record { group_is = refl; table = added_table c n trace f tab sv y may_grant stay_grant asked (λ k. k) (λ k. k) (λ k. k) (λ k. k) names_granted none fact_granted openers_granted };
        sent = (plain_sent c (More n y trace) f.epoch ss inst file q set k (stamp_or_none stamp) vector parents plain opens_ss, tt);
        written = tt;
      }

      pub granted_fine : TableFine c n trace f tab.group (asks_row f asked tab)
      granted_fine = subst (λ (told : List Told). TableFine c n trace f tab.group (outcome told)) (sym (plain_told f asked q plain)) told_fine
