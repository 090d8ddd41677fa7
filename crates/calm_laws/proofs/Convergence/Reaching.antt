-- How the only kept version of a file that nobody has open reaches a member that is to hold it, in a round: the member has it, pulls it
-- over the copy that it has, or a notice of it is under way.
use Rattle.std.proofs.Common.{List, None, Option, Some, [], ap, false, inl, inr, length, map, refl, subst, sym, true, ℕ, ◌++◌, ◌∙◌, ◌∷◌, ◌≡◌, ◌≤◌, ◌⊎◌}
use Rattle.calm_laws.proofs.Delivered.{inside_fact}
use Rattle.calm_laws.proofs.Events.{others_stay}
use Rattle.calm_laws.proofs.Facts.{RoundFacts, round_facts}
use Rattle.calm_laws.proofs.Lists.{every_among, row_key}
use Rattle.calm_laws.proofs.Members.{sync_is}
use Rattle.calm_laws.proofs.Moments.{GoesOn, goes_itself, goes_round_kept}
use Rattle.calm_laws.specs.Carrying.{IsMember, frame_of}
use Rattle.calm_laws.specs.Rounds.{Delivery, IsInRound}
use Rattle.commit_graph.proofs.Names.{same_stamp_eq}
use Rattle.calm_laws.proofs.Convergence.Coming.{Comes, Ends, ascends_in, comes_step, ends_keep}
use Rattle.calm_laws.proofs.Convergence.Due.{HasIt, HasOrNamed, IsDueTo, told_of}
use Rattle.calm_laws.proofs.Convergence.DueSteps.{DueOr, delivery_due}
use Rattle.calm_laws.proofs.Convergence.Going.{GoesOrLow, NamesLow, NoneRuns, PullsOver, goes_on_so, tries_by}
use Rattle.calm_laws.proofs.Convergence.Happening.{Before, Happened, IsStill, IsTaken, before_in, names_none, remains_in, taken_happens}
use Rattle.calm_laws.proofs.Convergence.Midst.{Midst, low_stays, midst_in, narrow_in, none_runs, notice_low, past_of_round, pull_is, same_low}
use Rattle.calm_laws.proofs.Convergence.Named.{named_by, named_there, names_for}
use Rattle.calm_laws.proofs.Convergence.Resting.{IsKeptOnly, RestsBy, last_offer}
use Rattle.calm_laws.proofs.Convergence.Shut.{shut_there}
use Rattle.calm_laws.proofs.Convergence.Taking.{Begins, HasHigh, notify_begins}
use Rattle.calm_laws.specs.Convergence.Copies.{NobodyHasOpen}
use Rattle.calm_laws.specs.Convergence.Offers.{IsToHold, Offer, is_above, is_for, named, names, notice_in, offer_of}
use Rattle.locus_ids.specs.Sites.{has}
use Rattle.locus_ids.specs.declared.config.Config.{Config}
use Rattle.locus_ids.specs.declared.ids.FileId.{FileId}
use Rattle.locus_ids.specs.declared.ids.Kind.{Kind}
use Rattle.locus_ids.specs.declared.ids.Stamp.{Stamp}
use Rattle.locus_ids.specs.declared.sites.Sites.{Sites}
use Rattle.row_laws.proofs.Orderly.Formed.{among_left}
use Rattle.row_laws.proofs.Orderly.Places.{view_eq}
use Rattle.row_laws.proofs.Orderly.Rounds.{arrives_kept, next_among}
use Rattle.row_laws.specs.Orderly.Calm.{AreTogether, IsInside}
use Rattle.calm_laws.proofs.Pulls.Ascending.{notify_keeps}
use Rattle.store_laws.proofs.OneTree.ToldVectorOnly.{row_stands}
use Rattle.tree_laws.proofs.Syncs.Versions.{row_vector}
use Rattle.calm_laws.specs.Pulls.Known.{written}
use Rattle.store_laws.specs.OneTree.Places.{InsideFact}
use Rattle.role_steps.specs.Adoption.{table_group}
use Rattle.role_steps.specs.Pulling.{is_over, on_notify, pull_key, pull_of}
use Rattle.role_steps.specs.Storage.{copy_of}
use Rattle.role_steps.specs.Tables.{without_row}
use Rattle.role_steps.specs.Versions.{file_row, is_below, kept, row_ino}
use Rattle.role_steps.specs.Views.{Frame, Receives, SiteView, Store, all_sites, file_key}
use Rattle.role_steps.specs.declared.copies.FileCopy.{FileCopy}
use Rattle.role_steps.specs.declared.pulls.Pull.{Pull}
use Rattle.role_steps.specs.declared.rounds.InEpoch.{InEpoch}
use Rattle.role_steps.specs.declared.synchronizing.FileRow.{FileRow}
use Rattle.role_steps.specs.declared.synchronizing.SyncTable.{SyncTable}
use Rattle.role_steps.specs.declared.synchronizing.VersionRow.{VersionRow}
use Rattle.schedule_lines.specs.declared.line.ScheduleLine.{ScheduleLine}
use Rattle.the_run.proofs.Boots.{at_each}
use Rattle.the_run.specs.Kept.{Among}
use Rattle.the_run.specs.Runs.{arrives, next_packet}
use Rattle.the_run.specs.Steps.{adopts_in, ends_event, step, takes_inside, tries_at, with_pulls}
use Rattle.the_run.specs.Worlds.{Numbered, Running, World, links_of, number_of, passed, place_at}
use Rattle.tree_laws.specs.Instances.{IsStarted, Stands}
use Rattle.tree_laws.specs.Packets.{BodyFact, PacketFact, file_in}
use Rattle.tree_laws.specs.Printed.{entries}
use Rattle.tree_laws.specs.Stores.{Ascends}
use Rattle.tree_laws.specs.Tables.{FileFact, FilesFact, StartedFiles, TableFact, VersionFact, row_stamp}
use Rattle.tree_model.specs.Files.{set_of_file}
use Rattle.tree_model.specs.Tree.{kept_in}
use Rattle.wire_messages.specs.declared.body.Body.{Body}
use Rattle.wire_messages.specs.declared.body.Body.TheVariants as body
use Rattle.wire_messages.specs.declared.packet.Packet.{Packet}

-- ---- what stands of a file that is due ----

pub due_rests : (c : Config) (e : InEpoch) (w : World) → RoundFacts c w → length c.packs ≤ 4 → AreTogether w e → (s : ℕ) (file : FileId) (v : VersionRow) → IsDueTo c e w s (last_offer file v) → NobodyHasOpen c e (place_at w) file → RestsBy c e file v s w.trace
due_rests c e w facts groups together s file v due nobody = record {
  past = past_of_round c w facts;
  kept = only_kept;
  started = subst (λ (g : ℕ). IsStarted c w.trace e.id g) at_table.1 (sym fact.started ∙ due.started);
  shut = shut_there c e w file v.stamp h.known.css facts groups together h.known.synced only_kept.stands nobody;
  in_set = ap (λ (x : Sites). has x s) (sym (of_row.set_is ∙ ap (λ (f : FileId). set_of_file c (entries w.trace) f) is_file)) ∙ h.in_set;
}
  where
    d : Offer
    d = last_offer file v

    h : IsToHold c e (place_at w) s d
    h = due.hold

    r : FileRow
    r = h.file_known

    t : SyncTable
    t = h.known.table

    css : IsMember e h.known.css
    css = (sync_is c e d.file.group h.known.css h.known.synced).1

    inside : InsideFact c (frame_of c e h.known.css) w.trace h.known.view
    inside = inside_fact c e w h.known.css h.known.view facts.fact together css h.known.here

    at_table : Among t h.known.view.tables × (t.group ≡ d.file.group)
    at_table = row_key table_group d.file.group h.known.view.tables t h.known.found

    at_row : Among r t.files × (r.ino ≡ d.file.ino)
    at_row = row_key row_ino d.file.ino t.files r h.known.is_row

    fact : TableFact c w.trace (frame_of c e h.known.css) t
    fact = every_among (TableFact c w.trace (frame_of c e h.known.css)) t h.known.view.tables at_table.0 inside.tables

    files : StartedFiles c w.trace (frame_of c e h.known.css) t
    files = subst (FilesFact c w.trace (frame_of c e h.known.css) t) due.started fact.files

    found : file_row t r.ino ≡ Some r
    found = subst (λ (i : ℕ). file_row t i ≡ Some r) (sym at_row.1) h.known.is_row

    is_file : file_in t.group r.ino ≡ d.file
    is_file = ap (λ (g : ℕ). file_in g r.ino) at_table.1 ∙ ap (λ (i : ℕ). file_in d.file.group i) at_row.1

    of_row : FileFact c w.trace e.id t.group r
    of_row = every_among (FileFact c w.trace e.id t.group) r t.files at_row.0 fact.rows

    version : VersionFact c w.trace d.file h.version
    version = subst (λ (f : FileId). VersionFact c w.trace f h.version) is_file (every_among (VersionFact c w.trace (file_in t.group r.ino)) h.version r.kept (subst (λ (vs : List VersionRow). Among h.version vs) (sym h.only) (inl refl)) of_row.keeps)

    only_kept : IsKeptOnly c w.trace e d
    only_kept = record {
      only = subst (λ (f : FileId). kept_in c (entries w.trace) e.id f ≡ d.stamp ∷ []) is_file (sym (files.kept_is r.ino) ∙ (ap (λ (o : Option FileRow). map row_stamp (kept o)) found ∙ (ap (map row_stamp) h.only ∙ ap (λ (x : Stamp). x ∷ []) h.stamp)));
      vector = sym h.vector ∙ (row_vector c w.trace d.file h.version version ∙ ap (written c w.trace d.file) h.stamp);
      stands = subst (λ (x : Stamp). Stands c w.trace d.file x) h.stamp (row_stands c w.trace d.file h.version version);
    }

-- ---- reached ----

pub record PullsIt (w : World) (s : ℕ) (file : FileId) (v : VersionRow) : Type 0 where
  pub view : SiteView
  pub here : place_at w s ≡ Some (Running view)
  pub pulls : PullsOver view file v

abbrev pub IsReached : InEpoch → World → ℕ → FileId → VersionRow → Type 0
IsReached e w s file v = HasIt w s (last_offer file v) ⊎ (PullsIt w s file v ⊎ Among (last_offer file v) (named e s w.underway))

pub reached_by : (e : InEpoch) (w : World) (s : ℕ) (file : FileId) (v : VersionRow) → HasOrNamed e w s (last_offer file v) → IsReached e w s file v
reached_by e w s file v (inl h) = inl h
reached_by e w s file v (inr h) = inr (inr h)

-- ---- a packet comes to the member ----

module _ (c : Config) (lines : List ScheduleLine) (n : ℕ) (e : InEpoch) (x : Numbered) (w : World) (d : Delivery c lines n e x w) (file : FileId) (v : VersionRow) (rests : RestsBy c e file v x.packet.to w.trace) where
  abbrev s : ℕ
  s = x.packet.to

  abbrev p : Packet
  p = x.packet

  abbrev w1 : World
  w1 = arrives c n x w

  abbrev view : SiteView
  view = d.view

  k : Midst c e w
  k = midst_in c lines n e w d.round d.before

  k1 : Midst c e w1
  k1 = midst_in c lines n e w1 d.follows d.after

  abbrev u : SiteView
  u = (step c s (links_of (passed x.number w) s) view (Receives p)).view

  comes : Comes c n x w u
  comes = comes_step c lines n e x w d

  b : Before c e s view
  b = before_in c e w k s view d.member d.here

  h : Happened c e s view u (Receives p)
  h = taken_happens c e s (links_of (passed x.number w) s) view b p (remains_in c e w1 k1 s u d.member comes.here) d.taken

  none : NoneRuns view file
  none = none_runs c e w k file v s rests d.member view d.here

  up : Ascends pull_key view.pulls
  up = k.ascend s view d.here

  fact : PacketFact c w.trace p
  fact = k.packets x (inr (next_among w w.over x d.next))

  low_names : (q : Packet) → PacketFact c w.trace q → q.epoch ≡ e.id → NamesLow q.body file v
  low_names q of inside = by_body q.body of
    where
      by_body : (z : Body) → BodyFact c w.trace q z → NamesLow z file v
      by_body (body.Notify about what sites size stamp vector holder) g = notice_low c e w k file v s rests d.member q about what sites size stamp vector holder inside g
      by_body _ g = tt

  goes_to : {old : Pull} → GoesOrLow u file v old → IsReached e w1 s file v
  goes_to (inl low) = inl (record { view = u; here = comes.here; low = low })
  goes_to (inr q) = inr (inl (record { view = u; here = comes.here; pulls = q.pulls }))

  pub pull_goes_on : PullsOver view file v → IsReached e w1 s file v
  pull_goes_on z = goes_to (goes_on_so c e s view u (Receives p) file v b h (λ q is inside. subst (λ (y : Packet). y.epoch ≡ e.id → NamesLow y.body file v) (packet_is q is) (low_names p fact) inside) none up z)
    where
      packet_is : (q : Packet) → Receives p ≡ Receives q → p ≡ q
      packet_is q e = cc

  -- the member takes the notice of it
  pub notice_comes : Among (last_offer file v) (notice_in p.body) → IsReached e w1 s file v
  notice_comes a = by_kind h.by
    where
      ends : Ends h.last (ends_event c s h.links h.last).view
      ends = ends_keep c s h.links h.last e h.round h.epoch

      nothing : IsStill view h.last p.body → ⊥
      nothing q = subst (λ (l : List Offer). Among (last_offer file v) l) (names_none p.body q.forms) a

      low_then : is_above v.vector (copy_of view.store file) ≡ false → IsReached e w1 s file v
      low_then low = inl (record { view = u; here = comes.here; low = low_stays c e w w1 goes.lines k k1 goes.trace s d.member view u d.here comes.here file (narrow_in c e w k file v s rests d.member) v.vector low })
        where
          goes : GoesOn w w1
          goes = arrives_kept c n (GoesOn w) (goes_round_kept c n w) x w (next_among w w.over x d.next) (goes_itself w)

      by_notice : IsTaken c e s view h.last p → (about : FileId) (what : Kind) (sites : Sites) (size : ℕ) (stamp : Stamp) (vector : List ℕ) (holder : ℕ) → p.body ≡ body.Notify about what sites size stamp vector holder → IsReached e w1 s file v
      by_notice t about what sites size stamp vector holder is = over (notify_begins f p.from (copy_of view.store about) q view.pulls)
        where
          f : Frame
          f = frame_of c e s

          q : Pull
          q = record { file = about; kind = what; set = sites; size = size; stamp = stamp; vector = vector; holder = holder; base = None; wanted = None; content = [] }

          named_is : last_offer file v ≡ offer_of q
          named_is = only_one (subst (λ (z : Body). Among (last_offer file v) (notice_in z)) is a)
            where
              only_one : Among (last_offer file v) (offer_of q ∷ []) → last_offer file v ≡ offer_of q
              only_one (inl eq) = eq
              only_one (inr z) = absurd z

          is_file : file ≡ about
          is_file = ap (λ (o : Offer). o.file) named_is

          is_vector : v.vector ≡ vector
          is_vector = ap (λ (o : Offer). o.vector) named_is

          ps : List Pull
          ps = (on_notify f p.from (copy_of view.store about) q view.pulls).view

          mid : SiteView
          mid = with_pulls view ps

          last_is : h.last ≡ (adopts_in c s mid).view
          last_is = t.is ∙ ap (λ (z : Body). (tries_at c s z (takes_inside f p.from z view).view).view) is

          begun : Begins f (copy_of view.store about) q view.pulls ps → PullsOver mid file v
          begun z = record {
            pull = z.0;
            found = ap (pull_of ps) is_file ∙ z.1;
            offer = offer_so z.3;
            over = ap (λ (g : FileId). is_over (copy_of view.store g) (z.0).base) is_file ∙ z.2;
          }
            where
              offer_so : (offer_of z.0 ≡ offer_of q) ⊎ (Among z.0 view.pulls × (is_below (z.0).vector vector ≡ false)) → offer_of z.0 ≡ last_offer file v
              offer_so (inl eq) = eq ∙ sym named_is
              offer_so (inr y) = pull_is c e w k file v s rests d.member view z.0 d.here y.0 (key_of (row_key pull_key (file_key about) ps z.0 z.1).1) (ap (is_below (z.0).vector) is_vector ∙ y.1)
                where
                  key_of : pull_key z.0 ≡ file_key about → file_key (z.0).file ≡ file_key file
                  key_of eq = eq ∙ ap file_key (sym is_file)

          high : (o : Option FileCopy) → copy_of view.store about ≡ o → HasHigh f p.from (copy_of view.store about) q view.pulls o → IsReached e w1 s file v
          high None is_own z = absurd z
          high (Some own) is_own (inl same) = low_then (same_low c e w k file v s rests d.member view own d.here (ap (copy_of view.store) is_file ∙ is_own) (same_stamp_eq own.stamp stamp same ∙ sym (ap (λ (o : Offer). o.stamp) named_is)))
          high (Some own) is_own (inr below) = low_then (ap (is_above v.vector) (ap (copy_of view.store) is_file ∙ is_own) ∙ (ap (is_below own.vector) is_vector ∙ below))

          ended : {old : Pull} → GoesOrLow h.last file v old → IsReached e w1 s file v
          ended (inl low) = inl (record { view = u; here = comes.here; low = ap (λ (y : SiteView). is_above v.vector (copy_of y.store file)) h.ended ∙ (ap (λ (y : Store). is_above v.vector (copy_of y file)) ends.store ∙ low) })
          ended (inr z) = inr (inl (record {
            view = u;
            here = comes.here;
            pulls = record {
              pull = z.pulls.pull;
              found = ap (λ (y : SiteView). pull_of y.pulls file) h.ended ∙ (ap (λ (l : List Pull). pull_of l file) ends.pulls ∙ z.pulls.found);
              offer = z.pulls.offer;
              over = ap (λ (y : SiteView). is_over (copy_of y.store file) z.pulls.pull.base) h.ended ∙ (ap (λ (y : Store). is_over (copy_of y file) z.pulls.pull.base) ends.store ∙ z.pulls.over);
            };
          }))

          over : Begins f (copy_of view.store about) q view.pulls ps ⊎ HasHigh f p.from (copy_of view.store about) q view.pulls (copy_of view.store about) → IsReached e w1 s file v
          over (inr z) = high (copy_of view.store about) refl z
          over (inl z) = (let g : PullsOver mid file v = begun z in
              ended (subst (λ (y : SiteView). GoesOrLow y file v g.pull) (sym last_is) (tries_by c e s (body.Notify about what sites size stamp vector holder) mid file v g.pull b.epoch (record { pulls = g; whole = λ y. refl; ascend = notify_keeps f p.from (copy_of view.store about) q view.pulls up }))))

      by_body : IsTaken c e s view h.last p → (z : Body) → p.body ≡ z → Among (last_offer file v) (notice_in z) → IsReached e w1 s file v
      by_body t (body.Notify about what sites size stamp vector holder) is y = by_notice t about what sites size stamp vector holder is
      by_body t _ is y = absurd y

      by_kind : IsTaken c e s view h.last p ⊎ IsStill view h.last p.body → IsReached e w1 s file v
      by_kind (inl t) = by_body t p.body refl a
      by_kind (inr q) = absurd (nothing q)

-- ---- a packet comes ----

-- the member has it still, and its notices are under way still, unless they came
pub named_or_comes : (c : Config) (lines : List ScheduleLine) (n : ℕ) (e : InEpoch) (s : ℕ) (x : Numbered) (w : World) (under more : List Numbered) (o : Offer) → IsInRound c lines n w → next_packet w ≡ Some x → under ≡ without_row number_of x.number w.underway ++ more → Among o (named e s w.underway) →
    Among o (named e s under) ⊎ ((x.packet.to ≡ s) × Among o (notice_in x.packet.body) × (is_for e s x.packet ≡ true))
named_or_comes c lines n e s x w under more o round next eq a = (let y : (y : Numbered) × Among y w.underway × Among o (names e s y.packet) = named_by e s o w.underway a in over y.0 y.2 (others_stay x w (ascends_in c lines n w round) (next_among w w.over x next) y.0 y.1))
  where
    over : (y : Numbered) → Among o (names e s y.packet) → Among y (passed x.number w).underway ⊎ (y.packet ≡ x.packet) → Among o (named e s under) ⊎ ((x.packet.to ≡ s) × Among o (notice_in x.packet.body) × (is_for e s x.packet ≡ true))
    over y b (inl there) = inl (named_there e s o y under (subst (λ (l : List Numbered). Among y l) (sym eq) (among_left y (without_row number_of x.number w.underway) more there)) b)
    over y b (inr same) = inr (names_for e s o x.packet (subst (λ (p : Packet). Among o (names e s p)) same b))

-- what is reached stays so
reach_on : (c : Config) (lines : List ScheduleLine) (n : ℕ) (e : InEpoch) (x : Numbered) (w : World) → (d : Delivery c lines n e x w) → (s : ℕ) (file : FileId) (v : VersionRow) → IsMember e s → RestsBy c e file v s w.trace → IsReached e w s file v → IsReached e (arrives c n x w) s file v
reach_on c lines n e x w d s file v member rests old = at_each x.packet.to s (IsReached e w1 s file v) mine theirs
  where
    w1 : World
    w1 = arrives c n x w

    k : Midst c e w
    k = midst_in c lines n e w d.round d.before

    k1 : Midst c e w1
    k1 = midst_in c lines n e w1 d.follows d.after

    comes : Comes c n x w (step c x.packet.to (links_of (passed x.number w) x.packet.to) d.view (Receives x.packet)).view
    comes = comes_step c lines n e x w d

    goes : GoesOn w w1
    goes = arrives_kept c n (GoesOn w) (goes_round_kept c n w) x w (next_among w w.over x d.next) (goes_itself w)

    j : IsInside w1 e s
    j = d.after.inside s member

    low : HasIt w s (last_offer file v) → IsReached e w1 s file v
    low h = inl (record { view = j.view; here = j.here; low = low_stays c e w w1 goes.lines k k1 goes.trace s member h.view j.view h.here j.here file (narrow_in c e w k file v s rests member) v.vector h.low })

    mine : x.packet.to ≡ s → IsReached e w1 s file v
    mine eq = over old
      where
        at_s : RestsBy c e file v x.packet.to w.trace
        at_s = subst (λ (i : ℕ). RestsBy c e file v i w.trace) (sym eq) rests

        back : IsReached e w1 x.packet.to file v → IsReached e w1 s file v
        back = subst (λ (i : ℕ). IsReached e w1 i file v) eq

        comes_or : Among (last_offer file v) (named e s w1.underway) ⊎ ((x.packet.to ≡ s) × Among (last_offer file v) (notice_in x.packet.body) × (is_for e s x.packet ≡ true)) → IsReached e w1 s file v
        comes_or (inl a) = inr (inr a)
        comes_or (inr a) = back (notice_comes c lines n e x w d file v at_s a.1)

        over : IsReached e w s file v → IsReached e w1 s file v
        over (inl h) = low h
        over (inr (inl h)) = back (pull_goes_on c lines n e x w d file v at_s (subst (λ (y : SiteView). PullsOver y file v) (view_eq (place_at w s) h.view d.view h.here (ap (place_at w) (sym eq) ∙ d.here)) h.pulls))
        over (inr (inr a)) = comes_or (named_or_comes c lines n e s x w w1.underway comes.more (last_offer file v) d.round d.next comes.underway a)

    theirs : (x.packet.to ≡ s → ⊥) → IsReached e w1 s file v
    theirs ne = over old
      where
        comes_or : Among (last_offer file v) (named e s w1.underway) ⊎ ((x.packet.to ≡ s) × Among (last_offer file v) (notice_in x.packet.body) × (is_for e s x.packet ≡ true)) → IsReached e w1 s file v
        comes_or (inl a) = inr (inr a)
        comes_or (inr a) = absurd (ne a.0)

        over : IsReached e w s file v → IsReached e w1 s file v
        over (inl h) = low h
        over (inr (inl h)) = inr (inl (record { view = h.view; here = comes.others s ne ∙ h.here; pulls = h.pulls }))
        over (inr (inr a)) = comes_or (named_or_comes c lines n e s x w w1.underway comes.more (last_offer file v) d.round d.next comes.underway a)

-- who is to hold it then has it, pulls it or is named it, where that was so before
pub reached_then : (c : Config) (lines : List ScheduleLine) (n : ℕ) (e : InEpoch) (x : Numbered) (w : World) → (d : Delivery c lines n e x w) → (s : ℕ) (file : FileId) (v : VersionRow) → IsMember e s → Among s all_sites → NobodyHasOpen c e (place_at w) file →
    (IsDueTo c e w s (last_offer file v) → IsReached e w s file v) → IsDueTo c e (arrives c n x w) s (last_offer file v) → IsReached e (arrives c n x w) s file v
reached_then c lines n e x w d s file v member site nobody old due = over (delivery_due c lines n e x w d s (last_offer file v) due)
  where
    over : DueOr c e w (arrives c n x w) x.packet.to d.view s (last_offer file v) due → IsReached e (arrives c n x w) s file v
    over (inl before) = reach_on c lines n e x w d s file v member (due_rests c e w (round_facts c lines n w d.round) d.round.groups d.before s file v before nobody) (old before)
    over (inr r) = reached_by e (arrives c n x w) s file v (told_of c lines n e (arrives c n x w) d.follows d.after s (last_offer file v) member site due.hold r.0)
