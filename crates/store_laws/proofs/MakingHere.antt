-- An open of a new file at its storage site: it is begun on a number that is free, or there is no number for it.
use Rattle.std.proofs.Common.{◌≡◌, ℕ, ◌+◌, ◌-◌, ◌*◌, ◌<◌, ◌≤◌, Bool, true, false, cond, List, [], ◌∷◌, Option, Some, None, refl, sym, ◌∙◌, ap, subst, arith, inl, inr}
use Rattle.role_steps.proofs.of_plain_facts.Options.{none_some}
use Rattle.role_steps.proofs.of_plain_facts.Tests.{true_false}
use Rattle.locus_ids.specs.declared.config.Config.{Config}
use Rattle.locus_ids.specs.declared.ids.FileId.{FileId}
use Rattle.locus_ids.specs.declared.ids.Kind.{Kind}
use Rattle.locus_ids.specs.declared.ids.Mode.{Mode}
use Rattle.locus_ids.specs.declared.ids.Mode.TheVariants as mode
use Rattle.locus_ids.specs.declared.ids.Serial.{Serial}
use Rattle.locus_ids.specs.declared.ids.Stamp.{Stamp}
use Rattle.locus_ids.specs.declared.refusal.Refusal.TheVariants as refusal
use Rattle.locus_ids.specs.declared.sites.Sites.{Sites}
use Rattle.locus_ids.specs.Sizes.{inode_span, site_inodes, sites_max}
use Rattle.wire_messages.specs.declared.body.Body.TheVariants as body
use Rattle.wire_messages.specs.declared.body.OpenedAs.TheVariants as opened
use Rattle.wire_messages.specs.declared.body.Opening.TheVariants as how
use Rattle.role_steps.specs.Own.{Every}
use Rattle.role_steps.specs.Storage.{StoreRequest, begun_instance, instance_key, instance_of, is_open, on_open_ss, on_open_ss_of, opened_packets, opens, opens_made, own_ino, with_instance}
use Rattle.role_steps.specs.Views.{Frame, Store, Told, Begins, Reserves, sends, serial_key, to_sync}
use Rattle.role_steps.specs.declared.instances.Instance.{Instance}
use Rattle.the_run.specs.Worlds.{Line}
use Rattle.tree_model.specs.Opening.{is_given_by, sites_made}
use Rattle.tree_model.specs.Files.{kind_made, words_named}
use Rattle.tree_model.specs.Histories.{held}
use Rattle.tree_model.specs.Packs.{has_pack, packs_of}
use Rattle.tree_laws.specs.Printed.{entries}
use Rattle.tree_laws.specs.Doing.{FrameFact, StoreFine, StoreHeld}
use Rattle.tree_laws.specs.Following.{MayBegin, MayReserve, IsFollowed}
use Rattle.tree_laws.specs.Instances.{IsFull, IsUsed}
use Rattle.tree_laws.specs.Packets.{JoinsParents, MakeOpenSs, MakesNow, NoNumber, OpenSsFact, PacketFact, RefusedFull}
use Rattle.tree_laws.specs.Past.{WasBegun, WasNamed, WasShut}
use Rattle.tree_laws.specs.Stores.{InstanceFact}
use Rattle.tree_laws.proofs.Making.{begun_place}
use Rattle.tree_laws.proofs.Serials.{unnamed}
use Rattle.tree_laws.specs.Orders.Joining.{PacksAreOfSites}
use Rattle.tree_laws.proofs.Versions.{versions_stay}
use Rattle.store_laws.proofs.Begun.{granted_named}
use Rattle.store_laws.proofs.Differing.{steps_stay}
use Rattle.store_laws.specs.Rests.{AllStays, IsUnbegun, StoreRests}
use Rattle.store_laws.proofs.Beginning.{opened_sent, plain_begun, shut_begun, to_sync_sent}
use Rattle.store_laws.proofs.Numbers.{begun_used, holds_copy, so_used, used_so}
use Rattle.store_laws.proofs.Ranges.{InRange, IsNext, given_in, given_range, next_none, next_some, place_packed, range_narrow, root_held}
use Rattle.store_laws.proofs.Said.{asked_as_said}
use Rattle.store_laws.proofs.Staying.{instance_more}
use Rattle.store_laws.proofs.Tabled.{apart_latest, every_latest, latest_has, latest_same, row_found}

above_one : (k : ℕ) → 1 ≤ k → (k ≡ 1 → ⊥) → 1 < k
above_one k low ne = omega (arith, low, ne)

at_least : (a k : ℕ) → site_inodes * (a - 1) + 1 ≤ k → 1 ≤ k
at_least a k l = omega (arith, l)

module _ (c : Config) (n : ℕ) (trace : List Line) (few : PacksAreOfSites c) (h : IsFollowed c trace) (rests : StoreRests c trace) (f : Frame) (frame : FrameFact c trace f) (s : Store) (held_so : StoreHeld c f trace s) where
  low_site : 1 ≤ f.me
  low_site = (rests.places f.epoch f.me frame.inside).0

  high_site : f.me ≤ sites_max
  high_site = (rests.places f.epoch f.me frame.inside).1

  -- ---- no number is left ----

  full_here : (g : ℕ) → own_ino s g f.me ≡ None → IsFull c trace f.epoch f.me g
  full_here g none file same given = (let r : InRange f.me file.ino = given_range f.me file.ino low_site given in
      subst (λ (y : FileId). IsUsed c trace f.epoch f.me y) (λ j. record { group = sym same j; ino = file.ino }) (used_so c trace h rests f frame s held_so g file.ino (range_narrow f.me file.ino high_site r.high) (next_none s g (site_inodes * (f.me - 1) + 1) site_inodes none file.ino r.low r.high)))

  -- ---- the next number is free ----

  module _ (g ino : ℕ) (next : own_ino s g f.me ≡ Some ino) (packed : has_pack c g f.me ≡ true) where
    it : IsNext s g (site_inodes * (f.me - 1) + 1) site_inodes ino
    it = next_some s g (site_inodes * (f.me - 1) + 1) site_inodes ino next

    narrow : ino < inode_span
    narrow = range_narrow f.me ino high_site it.high

    not_root : ino ≡ 1 → ⊥
    not_root e = (let root : (stamp : Stamp) × (held c (entries trace) f.me (record { group = g; ino = 1 }) ≡ Some stamp) = root_held c (entries trace) g f.me packed in
        true_false (sym (holds_copy c trace h rests f frame s held_so g ino narrow root.0 (subst (λ (k : ℕ). held c (entries trace) f.me (record { group = g; ino = k }) ≡ Some root.0) (sym e) root.1)) ∙ it.unused))

    given : is_given_by f.me ino ≡ true
    given = given_in f.me ino low_site it.low it.high (above_one ino (at_least f.me ino it.low) not_root)

    unused : IsUsed c trace f.epoch f.me (record { group = g; ino = ino }) → ⊥
    unused u = true_false (sym (so_used c trace h rests f frame s held_so g ino narrow given u) ∙ it.unused)

    untouched : (j : Serial) → WasBegun trace f.me f.epoch j (record { group = g; ino = ino }) → ⊥
    untouched j b = true_false (sym (begun_used c trace h rests f frame s held_so g ino narrow given j b) ∙ it.unused)

  -- ---- a make ----

  module _ (inst : Serial) (file : FileId) (set : Sites) (kind : Kind) (base : Stamp) (vector : List ℕ) (parents : List Stamp) (new : instance_of s inst ≡ None) where
    abbrev request : StoreRequest
    request = record { inst = inst; file = file; mode = mode.Make; set = set; kind = kind; base = base; vector = vector; parents = parents }

    not_here : (g : FileId) → WasBegun trace f.me f.epoch inst g → ⊥
    not_here g b = (let x : (x : Instance) × (instance_of s inst ≡ Some x) = held_so.instances.has inst g b in none_some x.0 (sym new ∙ x.1))

    unbegun : MakesNow c trace f.epoch f.me inst file.group set kind → IsUnbegun trace f.epoch inst
    unbegun now site g b = not_here g (subst (λ (y : ℕ). WasBegun trace y f.epoch inst g) (begun_place c trace h f.epoch site f.me inst g file.group set kind b now) b)

    none_sent : NoNumber c trace f.epoch f.me inst → Every (PacketFact c trace) (to_sync f file.group (body.Opened inst (opened.No refusal.NoInode)))
    none_sent k = to_sync_sent c trace f file.group (body.Opened inst (opened.No refusal.NoInode)) (λ to. (refl, k))

    no_number : NoNumber c trace f.epoch f.me inst → StoreFine c n trace f s (opens_made f request None s)
    no_number k = record { told = tt; own = tt; view = held_so; sent = none_sent k; written = tt }

    -- a make that is asked now is begun on the number
    module _ (now : MakesNow c trace f.epoch f.me inst file.group set kind) (no_parents : parents ≡ []) (joins : JoinsParents c trace file [] vector) (ino : ℕ) (next : own_ino s file.group f.me ≡ Some ino) where
      abbrev made : FileId
      made = record { group = file.group; ino = ino }

      abbrev i : Instance
      i = begun_instance request made None

      abbrev begins_it : Told
      begins_it = Begins f.me f.epoch inst made

      abbrev reserves_it : Told
      reserves_it = Reserves f.me f.epoch inst made

      abbrev between : List Line
      between = record { number = n; told = Begins f.me f.epoch inst made } ∷ trace

      abbrev after : List Line
      after = record { number = n; told = Reserves f.me f.epoch inst made } ∷ between

      packed : has_pack c file.group f.me ≡ true
      packed = place_packed c file.group _ now.call.site set f.me now.good now.at low_site high_site

      may_begin : MayBegin c trace f.me f.epoch inst made
      may_begin = record {
        inside = frame.inside;
        new = unbegun now;
        may = inr (record {
          call = now.call;
          request = now.request;
          asked = now.file;
          set = set;
          kind = kind;
          asks = now.asks;
          user_is = now.user_is;
          group_is = now.group_is;
          started = now.started;
          good = now.good;
          at = now.at;
          number = given file.group ino next packed;
          unused = unused file.group ino next packed;
          untouched = untouched file.group ino next packed;
        });
      }

      begun : WasBegun after f.me f.epoch inst made
      begun = inr (inl (record { site_is = refl; epoch_is = refl; serial_is = refl; file_is = refl }))

      nobody : WasNamed trace f.epoch inst → ⊥
      nobody named = unnamed c trace f.epoch now.call now.request inst now.file (how.Make set kind) h now.asks now.user_is named

      nobody_after : WasNamed after f.epoch inst → ⊥
      nobody_after (inl p) = p
      nobody_after (inr (inl p)) = p
      nobody_after (inr (inr p)) = nobody p

      nobody_between : WasNamed between f.epoch inst → ⊥
      nobody_between (inl p) = p
      nobody_between (inr p) = nobody p

      may_reserve : MayReserve between f.me f.epoch inst made
      may_reserve = record { begun = inl (record { site_is = refl; epoch_is = refl; serial_is = refl; file_is = refl }); ungranted = nobody_between }

      unshut : WasShut after f.me f.epoch inst → ⊥
      unshut (inl p) = p
      unshut (inr (inl p)) = p
      unshut (inr (inr p)) = (let b : (g : FileId) × WasBegun trace f.me f.epoch inst g = shut_begun c trace h f.me f.epoch inst p in not_here b.0 b.1)

      abbrev makes_after : MakesNow c after f.epoch f.me inst file.group set kind
      makes_after = record {
        call = now.call;
        request = now.request;
        file = now.file;
        asks = record {
          wanted = now.asks.wanted;
          asks = record { asked = now.asks.asks.asked; request = now.asks.asks.request; nothing_waits = now.asks.asks.nothing_waits };
          opening_is = now.asks.opening_is;
          inside = now.asks.inside;
          request_is = now.asks.request_is;
          serial_is = now.asks.serial_is;
        };
        user_is = now.user_is;
        group_is = now.group_is;
        started = now.started;
        good = now.good;
        at = now.at;
      }

      set_is : set ≡ sites_made (packs_of c file.group) (words_named (entries trace) (Some now.call))
      set_is = (asked_as_said c trace f.epoch now.call now.request inst.serial now.file set kind now.asks).0 ∙ ap (λ (g : ℕ). sites_made (packs_of c g) (words_named (entries trace) (Some now.call))) now.group_is

      kind_is : kind ≡ kind_made (words_named (entries trace) (Some now.call))
      kind_is = (asked_as_said c trace f.epoch now.call now.request inst.serial now.file set kind now.asks).1

      fact : InstanceFact c after f i
      fact = record {
        begun = begun;
        sized = λ call request g stamp site was. absurd (nobody_after (granted_named after f.epoch call request inst mode.Read g stamp site was));
        user = subst (λ (u : ℕ). u ≤ sites_max) (sym now.user_is) (rests.sites f.epoch now.call now.asks.inside);
        vector_is = subst (λ (ps : List Stamp). JoinsParents c after made ps vector) (sym no_parents) joins;
        lies = (now.call, inl (record { now = makes_after; call_is = refl }), set_is, kind_is, inl (record { site_is = refl; epoch_is = refl; serial_is = refl; file_is = refl }));
        holds = inl (refl, refl);
        stage = (inr (record { mode_is = refl; fresh = refl; no_parents = no_parents; unnamed = nobody_after }), record { fresh = refl; clean = λ e. refl }, unshut);
        answered = refl;
      }

      has_after : (j : Serial) (g : FileId) → WasBegun after f.me f.epoch j g → (y : Instance) × (instance_of (with_instance i s) j ≡ Some y)
      has_after j g (inl p) = absurd p
      has_after j g (inr (inl p)) = (i, subst (λ (k : Serial). instance_of (with_instance i s) k ≡ Some i) p.serial_is (latest_same instance_key i s.instances))
      has_after j g (inr (inr p)) = latest_has instance_key i (serial_key j) s.instances (held_so.instances.has j g p)

      make_begun : AllStays c n trace (Begins f.me f.epoch inst made ∷ Reserves f.me f.epoch inst made ∷ []) → StoreFine c n trace f s (opens_made f request (Some ino) s)
      make_begun stays = record {
        told = (may_begin, (may_reserve, tt));
        own = (refl, (refl, tt));
        view = record {
          copies = record { are = held_so.copies.are; ascends = held_so.copies.ascends };
          instances = record {
            instances = every_latest instance_key i (InstanceFact c trace f) (InstanceFact c after f) s.instances
                (λ j other k. instance_more c n reserves_it between few (may_begin, h) may_reserve ((stays may_begin).1 may_reserve).0 f j tt (instance_more c n begins_it trace few h may_begin (stays may_begin).0 f j tt k)) held_so.instances.apart held_so.instances.instances fact;
            apart = apart_latest instance_key i s.instances held_so.instances.apart;
            has = has_after;
            steps = steps_stay c between after (versions_stay c n reserves_it between (may_begin, h) may_reserve ((stays may_begin).1 may_reserve).0.fresh ((stays may_begin).1 may_reserve).0.order) s.steps
                (steps_stay c trace between (versions_stay c n begins_it trace h may_begin (stays may_begin).0.fresh (stays may_begin).0.order) s.steps held_so.instances.steps);
          };
        };
        sent = opened_sent c after f i begun fact.sized;
        written = tt;
      }

    -- a make that was refused finds no number still
    refused_none : RefusedFull c trace f.epoch f.me inst file.group → (o : Option ℕ) → own_ino s file.group f.me ≡ o → AllStays c n trace (opens_made f request o s).told → StoreFine c n trace f s (opens_made f request o s)
    refused_none k None e stays = no_number (record { group = file.group; set = set; kind = kind; full = k.full; unbegun = k.unbegun; make = inl k })
    refused_none k (Some ino) e stays = absurd (unused file.group ino e packed (k.full (record { group = file.group; ino = ino }) refl (given file.group ino e packed)))
      where
        packed : has_pack c file.group f.me ≡ true
        packed = place_packed c file.group k.members k.own k.set f.me k.good k.at low_site high_site

    asked_made : MakesNow c trace f.epoch f.me inst file.group set kind → parents ≡ [] → JoinsParents c trace file [] vector → (o : Option ℕ) → own_ino s file.group f.me ≡ o → AllStays c n trace (opens_made f request o s).told → StoreFine c n trace f s (opens_made f request o s)
    asked_made now none joins None e stays = no_number (record { group = file.group; set = set; kind = kind; full = full_here file.group e; unbegun = unbegun now; make = inr now })
    asked_made now none joins (Some ino) e stays = make_begun now none joins ino e stays

    make_opened : MakeOpenSs c trace f.epoch f.me inst file.group set kind → parents ≡ [] → JoinsParents c trace file [] vector → AllStays c n trace (opens_made f request (own_ino s file.group f.me) s).told → StoreFine c n trace f s (opens_made f request (own_ino s file.group f.me) s)
    make_opened (inl b) none joins stays = absurd (not_here b.0 b.1)
    make_opened (inr (inl k)) none joins stays = refused_none k (own_ino s file.group f.me) refl stays
    make_opened (inr (inr now)) none joins stays = asked_made now none joins (own_ino s file.group f.me) refl stays

-- ---- every open ----

-- a request of an instance that is there is answered again while it is open
opened_again : (c : Config) (n : ℕ) (trace : List Line) (f : Frame) (s : Store) → StoreHeld c f trace s → (i : Instance) → InstanceFact c trace f i → StoreFine c n trace f s (sends (cond (is_open i.stage) (opened_packets f i) []) s)
opened_again c n trace f s kept i k = record { told = tt; own = tt; view = kept; sent = over (is_open i.stage); written = tt }
  where
    over : (b : Bool) → Every (PacketFact c trace) (cond b (opened_packets f i) [])
    over true = opened_sent c trace f i k.begun k.sized
    over false = tt

-- an instance that isn't there is begun
opened_new : (c : Config) (n : ℕ) (trace : List Line) → PacksAreOfSites c → IsFollowed c trace → StoreRests c trace → (f : Frame) → FrameFact c trace f → (s : Store) → StoreHeld c f trace s → (inst : Serial) (file : FileId) (m : Mode) (set : Sites) (kind : Kind) (base : Stamp) (vector : List ℕ) (parents : List Stamp) → OpenSsFact c trace f.epoch f.me inst file m set kind base vector parents → instance_of s inst ≡ None →
    AllStays c n trace (opens f (record { inst = inst; file = file; mode = m; set = set; kind = kind; base = base; vector = vector; parents = parents }) m s).told → StoreFine c n trace f s (opens f (record { inst = inst; file = file; mode = m; set = set; kind = kind; base = base; vector = vector; parents = parents }) m s)
opened_new c n trace few h rests f frame s kept inst file mode.Make set kind base vector parents k new stays = make_opened c n trace few h rests f frame s kept inst file set kind base vector parents new k.0 k.1 k.2 stays
opened_new c n trace few h rests f frame s kept inst file mode.Read set kind base vector parents k new stays = plain_begun c n trace few h rests f frame s kept (record { inst = inst; file = file; mode = mode.Read; set = set; kind = kind; base = base; vector = vector; parents = parents }) (λ e. read_make e) k new stays
  where
    read_make : mode.Read ≡ mode.Make → ⊥
    read_make e = cc
opened_new c n trace few h rests f frame s kept inst file mode.Write set kind base vector parents k new stays = plain_begun c n trace few h rests f frame s kept (record { inst = inst; file = file; mode = mode.Write; set = set; kind = kind; base = base; vector = vector; parents = parents }) (λ e. write_make e) k new stays
  where
    write_make : mode.Write ≡ mode.Make → ⊥
    write_make e = cc
opened_new c n trace few h rests f frame s kept inst file mode.Resolve set kind base vector parents k new stays = plain_begun c n trace few h rests f frame s kept (record { inst = inst; file = file; mode = mode.Resolve; set = set; kind = kind; base = base; vector = vector; parents = parents }) (λ e. resolve_make e) k new stays
  where
    resolve_make : mode.Resolve ≡ mode.Make → ⊥
    resolve_make e = cc
opened_new c n trace few h rests f frame s kept inst file mode.Mend set kind base vector parents k new stays = plain_begun c n trace few h rests f frame s kept (record { inst = inst; file = file; mode = mode.Mend; set = set; kind = kind; base = base; vector = vector; parents = parents }) (λ e. mend_make e) k new stays
  where
    mend_make : mode.Mend ≡ mode.Make → ⊥
    mend_make e = cc

pub open_fine : (c : Config) (n : ℕ) (trace : List Line) → PacksAreOfSites c → IsFollowed c trace → StoreRests c trace → (f : Frame) → FrameFact c trace f → (s : Store) → StoreHeld c f trace s → (inst : Serial) (file : FileId) (m : Mode) (set : Sites) (kind : Kind) (base : Stamp) (vector : List ℕ) (parents : List Stamp) → OpenSsFact c trace f.epoch f.me inst file m set kind base vector parents →
    AllStays c n trace (on_open_ss f (record { inst = inst; file = file; mode = m; set = set; kind = kind; base = base; vector = vector; parents = parents }) s).told → StoreFine c n trace f s (on_open_ss f (record { inst = inst; file = file; mode = m; set = set; kind = kind; base = base; vector = vector; parents = parents }) s)
open_fine c n trace few h rests f frame s kept inst file m set kind base vector parents k stays = over (instance_of s inst) refl stays
  where
    r : StoreRequest
    r = record { inst = inst; file = file; mode = m; set = set; kind = kind; base = base; vector = vector; parents = parents }

    over : (o : Option Instance) → instance_of s inst ≡ o → AllStays c n trace (on_open_ss_of f r o s).told → StoreFine c n trace f s (on_open_ss_of f r o s)
    over None e stays = opened_new c n trace few h rests f frame s kept inst file m set kind base vector parents k e stays
    over (Some i) e stays = opened_again c n trace f s kept i (row_found instance_key (serial_key inst) s.instances i (InstanceFact c trace f) e kept.instances.instances).0
