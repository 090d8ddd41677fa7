-- The release of an instance that its storage site has closed comes as it may; and what it leaves of the tree.
use Rattle.std.proofs.Common.{◌≡◌, ℕ, ◌==◌, Bool, true, false, not, ◌&&◌, ◌||◌, cond, List, map, Option, Some, None, refl, sym, ◌∙◌, ap, subst, ◌⊎◌, inl, inr, arith}
use Rattle.std.proofs.lemmas.Bool.Decides.{nat_tests}
use Rattle.std.specs.Option.{is_some}
use Rattle.role_steps.proofs.of_plain_facts.Numbers.{equal_self}
use Rattle.role_steps.proofs.of_plain_facts.Options.{some_same}
use Rattle.role_steps.proofs.of_plain_facts.Tests.{and_true, true_false}
use Rattle.locus_ids.specs.declared.config.Config.{Config}
use Rattle.locus_ids.specs.declared.ids.CallId.{CallId}
use Rattle.locus_ids.specs.declared.ids.EpochId.{EpochId}
use Rattle.locus_ids.specs.declared.ids.FileId.{FileId}
use Rattle.locus_ids.specs.declared.ids.Serial.{Serial}
use Rattle.locus_ids.specs.declared.ids.Stamp.{Stamp}
use Rattle.locus_ids.specs.declared.sites.Members.{Members}
use Rattle.commit_graph.specs.Versions.{same_file}
use Rattle.commit_graph.specs.declared.history.Version.{Version}
use Rattle.commit_graph.proofs.Names.{same_stamp_refl}
use Rattle.trace_book.specs.Same.{same_epoch, same_serial}
use Rattle.trace_book.specs.declared.operation.What.{What}
use Rattle.trace_book.specs.declared.record.Record.TheVariants as says
use Rattle.call_rules.specs.declared.want.Want.TheVariants as want
use Rattle.role_steps.specs.Opens.{is_open_on, is_open_stage, open_key, with_open}
use Rattle.role_steps.specs.Tables.{row}
use Rattle.role_steps.specs.Views.{Frame, Told, Shown, serial_key}
use Rattle.role_steps.specs.Views as role
use Rattle.role_steps.specs.declared.synchronizing.OpenRow.{OpenRow}
use Rattle.role_steps.specs.declared.synchronizing.OpenStage.{OpenStage}
use Rattle.role_steps.specs.declared.synchronizing.OpenStage.TheVariants as stage
use Rattle.role_steps.specs.declared.synchronizing.SyncTable.{SyncTable}
use Rattle.the_run.specs.Worlds.{Line}
use Rattle.tree_model.specs.declared.instance.Instance.{Instance}
use Rattle.tree_model.specs.Given.{gives_release, instance_ends}
use Rattle.tree_model.specs.Histories.{history}
use Rattle.tree_model.specs.Lists.{without_first}
use Rattle.tree_model.specs.Packs.{sync_site}
use Rattle.tree_model.specs.Same.{same_version}
use Rattle.tree_model.specs.State.{TreeState, held_at, instance_in, is_named, stamps_of}
use Rattle.tree_model.specs.Tree.{candidates, published, released, tree_of}
use Rattle.tree_model.specs.Working.{is_spent}
use Rattle.lawful_trace.specs.TreeRows.{granted_group, has_joined_some, is_served}
use Rattle.tree_laws.specs.Following.{MayTell}
use Rattle.tree_laws.specs.Instances.{held_in, instance_now}
use Rattle.tree_laws.specs.Packets.{EndsNow, file_in}
use Rattle.tree_laws.specs.Past.{WasShut}
use Rattle.tree_laws.specs.Printed.{entries}
use Rattle.tree_laws.specs.Tables.{IsAhead, IsGrantedNow, named_instance, named_openers, named_row, tree_openers}
use Rattle.tree_laws.proofs.Finds.{find_without}
use Rattle.tree_laws.proofs.Hearing.{asks_next}
use Rattle.tree_laws.proofs.Kinship.{tree_epoch_is, tree_group_is}
use Rattle.tree_laws.proofs.Names.{same_epoch_own, same_serial_eq}
use Rattle.store_laws.proofs.of_tree_laws.Orders.ProcessSynchronizing.{sync_same}
use Rattle.store_laws.proofs.Places.{open_is}
use Rattle.store_laws.proofs.of_tree_laws.Syncs.Members.{inside_joined}
use Rattle.store_laws.proofs.of_tree_laws.Syncs.OpensStay.{granted_group_is}
use Rattle.store_laws.specs.OneTree.Rest.{more}
use Rattle.store_laws.specs.OneTree.Roles.{Ready, TableHere}
use Rattle.rest_laws.proofs.TableOpeners.{filter_taken, is_of, latest_apart, table_taken, tree_taken}

version_own : (o : Option Stamp) → same_version o o ≡ true
version_own None = refl
version_own (Some s) = same_stamp_refl s

own_file : (g : FileId) → same_file g g ≡ true
own_file g = grind (arith, nat_tests)

-- the group of a table that is here is served
pub here_served : (c : Config) (trace : List Line) (f : Frame) (t : SyncTable) → Ready c trace f → TableHere c trace f t → is_served c (entries trace) f.epoch t.group ≡ true
here_served c trace f t ready here =
    ap (λ (o : Option Members). has_joined_some (entries trace) f.epoch (sync_site c t.group o)) ready.frame.members_are
    ∙ (ap (λ (o : Option ℕ). has_joined_some (entries trace) f.epoch o) serves ∙ inside_joined c trace ready.past.followed f.me f.epoch ready.frame.inside)
  where
    serves : sync_site c t.group (Some f.members) ≡ Some f.me
    serves = subst (λ (o : Option ℕ). o ≡ Some f.me) (sync_same c f.members t.group) (subst (λ (k : Config). role.sync_site k f.members t.group ≡ Some f.me) ready.frame.config_is here.synced)

module _ (c : Config) (n : ℕ) (trace : List Line) (f : Frame) (t : SyncTable) (ready : Ready c trace f) (here : TableHere c trace f t) (r : OpenRow) (d : CallId) (group_is : r.file.group ≡ t.group) (granted : IsGrantedNow trace f.epoch r d) (ss : ℕ) (last : Option Stamp) (ends : EndsNow c trace f.epoch ss r.inst last) where
  abbrev x : Told
  x = Shown (says.Release f.epoch r.inst r.file last)

  abbrev h : List Version
  h = history c (entries trace)

  abbrev T : TreeState
  T = tree_of c f.epoch t.group (entries trace)

  -- ---- it comes as it may ----

  granted_in : granted_group (entries trace) f.epoch r.inst ≡ r.file.group
  granted_in = granted_group_is f.epoch r.inst c trace ready.past.followed d r.request r.mode r.file r.stamp r.ss granted.was_granted

  found : instance_in (tree_of c f.epoch r.file.group (entries trace)) r.inst ≡ Some ends.at
  found = subst (λ (g : ℕ). instance_in (tree_of c f.epoch g (entries trace)) r.inst ≡ Some ends.at) granted_in ends.closes.open_at.found

  pub found_here : instance_in T r.inst ≡ Some ends.at
  found_here = subst (λ (g : ℕ). instance_in (tree_of c f.epoch g (entries trace)) r.inst ≡ Some ends.at) group_is found

  pub its_file : ends.at.grant.file ≡ r.file
  its_file = (open_is c trace ready.past.followed f.epoch d r.request r.inst r.mode r.file r.stamp r.ss ends.at granted.was_granted ends.closes.open_at.found).1

  pub its_call : ends.at.grant.call ≡ d
  its_call = (open_is c trace ready.past.followed f.epoch d r.request r.inst r.mode r.file r.stamp r.ss ends.at granted.was_granted ends.closes.open_at.found).3

  gives : gives_release h (tree_of c f.epoch r.file.group (entries trace)) r.inst r.file last ≡ true
  gives = ap (instance_ends h (tree_of c f.epoch r.file.group (entries trace)) r.file last) found
      ∙ and_true (same_file ends.at.grant.file r.file) _ (subst (λ (g : FileId). same_file g r.file ≡ true) (sym its_file) (own_file r.file))
      (and_true (same_version last ends.at.work.committed) _ (subst (λ (o : Option Stamp). same_version last o ≡ true) (sym ends.committed) (version_own last)) (ap (λ (b : Bool). not b || is_spent h (tree_of c f.epoch r.file.group (entries trace)) ends.at) ends.owes))

  not_look : (g : FileId) (w : What) → want.Close r.inst ≡ want.Look g w → ⊥
  not_look g w e = cc

  pub may : MayTell c trace x
  may = record {
    row = record {
      gives = gives;
      served = subst (λ (g : ℕ). is_served c (entries trace) f.epoch g ≡ true) (sym group_is) (here_served c trace f t ready here);
      step = record { call = ends.closes.call; owned = ends.closes.owner; step = ends.closes.inside; asked = (asks_next c trace ends.closes.call (want.Close r.inst) ready.past.followed ends.closes.asks not_look).0 };
    };
    in_time = record {
      group_is = granted_in;
      call = ends.closes.call;
      owner = ends.closes.owner;
      asks = ends.closes.asks;
      at = ends.at;
      open_at = record { found = ends.closes.open_at.found; place = refl };
      shut = subst (λ (s : ℕ). WasShut trace s f.epoch r.inst) (sym ends.closes.open_at.place) ends.shut;
      owes = ends.owes;
    };
  }

  -- ---- the tree after it ----

  abbrev new : List Line
  new = more n x trace

  concerned : (same_epoch f.epoch T.epoch && (r.file.group == T.group)) ≡ true
  concerned = and_true (same_epoch f.epoch T.epoch) (r.file.group == T.group) (subst (λ (e : EpochId). same_epoch f.epoch e ≡ true) (sym (tree_epoch_is c f.epoch t.group (entries trace))) (same_epoch_own f.epoch))
      (subst (λ (g : ℕ). (r.file.group == g) ≡ true) (group_is ∙ sym (tree_group_is c f.epoch t.group (entries trace))) (equal_self r.file.group))

  tree_is : tree_of c f.epoch t.group (entries new) ≡ released r.inst r.file last T
  tree_is = ap (λ (b : Bool). cond b (released r.inst r.file last T) T) concerned

  pub known_now : (ino : ℕ) → candidates c (entries new) f.epoch (file_in t.group ino) ≡ stamps_of (published r.file last T.known) ino
  known_now ino = ap (λ (s : TreeState). stamps_of s.known ino) tree_is

  pub held_now : (site ino : ℕ) → held_in c (entries new) f.epoch site (file_in t.group ino) ≡ held_in c (entries trace) f.epoch site (file_in t.group ino)
  held_now site ino = ap (λ (s : TreeState). held_at s site ino) tree_is

  -- another instance is open as before
  instance_other : (j : Serial) → (j ≡ r.inst → ⊥) → instance_now c new f.epoch j ≡ instance_now c trace f.epoch j
  instance_other j other = over (same_epoch f.epoch U.epoch && (r.file.group == U.group))
    where
      U : TreeState
      U = tree_of c f.epoch (granted_group (entries trace) f.epoch j) (entries trace)

      apart : (y : Instance) → is_named r.inst y ≡ true → (b : Bool) → same_serial y.grant.inst j ≡ b → is_named j y ≡ false
      apart y named false k = k
      apart y named true k = absurd (other (sym (same_serial_eq y.grant.inst j k) ∙ same_serial_eq y.grant.inst r.inst named))

      over : (b : Bool) → instance_in (cond b (released r.inst r.file last (tree_of c f.epoch (granted_group (entries trace) f.epoch j) (entries trace))) (tree_of c f.epoch (granted_group (entries trace) f.epoch j) (entries trace))) j ≡ instance_in (tree_of c f.epoch (granted_group (entries trace) f.epoch j) (entries trace)) j
      over true = find_without (is_named j) (is_named r.inst) (λ y k. apart y k (same_serial y.grant.inst j) refl) (tree_of c f.epoch (granted_group (entries trace) f.epoch j) (entries trace)).instances
      over false = refl

  -- it is the released one that was ahead
  pub record WasAhead (site : ℕ) (file : FileId) : Type 0 where
    pub site_is : site ≡ ss
    pub file_is : r.file ≡ file
    pub committed : is_some last ≡ true

  -- whoever was ahead is, but for the released one
  pub ahead_now : (site : ℕ) (file : FileId) → IsAhead c trace f.epoch site file → IsAhead c new f.epoch site file ⊎ WasAhead site file
  ahead_now site file a = over (same_serial a.inst r.inst) refl
    where
      over : (b : Bool) → same_serial a.inst r.inst ≡ b → IsAhead c new f.epoch site file ⊎ WasAhead site file
      over true k = inr (record {
        site_is = sym a.open_at.place ∙ (ap (λ (y : Instance). y.grant.ss) one ∙ ends.closes.open_at.place);
        file_is = sym its_file ∙ (ap (λ (y : Instance). y.grant.file) (sym one) ∙ a.file_is);
        committed = ap is_some (sym ends.committed) ∙ (ap (λ (y : Instance). is_some y.work.committed) (sym one) ∙ a.committed);
      })
        where
          one : a.at ≡ ends.at
          one = some_same a.at ends.at (sym a.open_at.found ∙ (ap (instance_now c trace f.epoch) (same_serial_eq a.inst r.inst k) ∙ ends.closes.open_at.found))
      over false k = inl (record { inst = a.inst; at = a.at; open_at = record { found = instance_other a.inst apart ∙ a.open_at.found; place = a.open_at.place }; file_is = a.file_is; committed = a.committed })
        where
          apart : a.inst ≡ r.inst → ⊥
          apart e = true_false (sym (subst (λ (j : Serial). same_serial a.inst j ≡ true) e (own a.inst)) ∙ k)
            where
              own : (j : Serial) → same_serial j j ≡ true
              own j = grind (arith, nat_tests)

  -- ---- who has files open ----

  module _ (stage_is : r.stage ≡ stage.Granted) (its_row : row open_key (serial_key r.inst) t.opens ≡ Some r) where
    abbrev ended : OpenRow
    ended = record r { stage = stage.Ended }

    closed : (b : Bool) → b && false ≡ false
    closed true = refl
    closed false = refl

    pub openers_now : (ino : ℕ) → (ino ≡ 0 → ⊥) → named_openers (with_open ended t) (file_in t.group ino) ≡ tree_openers (tree_of c f.epoch t.group (entries new)) (file_in t.group ino)
    openers_now ino some = over (same_file r.file (file_in t.group ino)) refl ∙ sym (ap (λ (s : TreeState). tree_openers s (file_in t.group ino)) tree_is)
      where
        passes : (b : Bool) → same_file r.file (file_in t.group ino) ≡ b → is_open_on (file_in t.group ino) r ≡ b
        passes true k = ap (λ (s : OpenStage). same_file r.file (file_in t.group ino) && is_open_stage s) stage_is ∙ ap (λ (a : Bool). a && true) k
        passes false k = ap (λ (a : Bool). a && is_open_stage r.stage) k

        tests : (b : Bool) → same_file r.file (file_in t.group ino) ≡ b → same_file ends.at.grant.file (file_in t.group ino) ≡ b
        tests b k = ap (λ (g : FileId). same_file g (file_in t.group ino)) its_file ∙ k

        over : (b : Bool) → same_file r.file (file_in t.group ino) ≡ b → named_openers (with_open ended t) (file_in t.group ino) ≡ tree_openers (released r.inst r.file last T) (file_in t.group ino)
        over true k = table_taken r.inst (is_open_on (file_in t.group ino)) ended r t.opens its_row refl refl (passes true k) (closed (same_file r.file (file_in t.group ino)))
            ∙ (ap (without_first (is_of r.inst)) (here.fact.openers_are ino some)
            ∙ sym (tree_taken r.inst (λ (y : Instance). same_file y.grant.file (file_in t.group ino)) T.instances ends.at found_here (tests true k)))
        over false k = ap (map named_row) (latest_apart open_key (is_open_on (file_in t.group ino)) ended r t.opens its_row (passes false k) (closed (same_file r.file (file_in t.group ino))))
            ∙ (here.fact.openers_are ino some
            ∙ sym (ap (map named_instance) (filter_taken (is_named r.inst) (λ (y : Instance). same_file y.grant.file (file_in t.group ino)) T.instances ends.at found_here (tests false k))))
