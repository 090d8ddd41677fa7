-- The deliveries of a round at a member that could adopt a version: as many notices are under way to it as there are files of which it
-- could adopt one, or more. Each notice that comes lets it adopt one, and so does what completes a pull.
use Rattle.std.proofs.Common.{Bool, List, None, Option, Some, [], ap, arith, false, inl, inr, length, map, nat_le, refl, subst, sym, true, ℕ, ◌&&◌, ◌++◌, ◌+◌, ◌<◌, ◌∙◌, ◌∷◌, ◌≡◌, ◌≤◌, ◌⊎◌}
use Rattle.std.proofs.lemmas.Bool.Decides.{nat_tests}
use Rattle.std.proofs.lemmas.List.{length-map}
use Rattle.rest_laws.proofs.StoreStepKnown.{stands_narrow}
use Rattle.rest_laws.proofs.TableNoting.{ascends_found}
use Rattle.calm_laws.specs.Carrying.{IsMember, frame_of}
use Rattle.calm_laws.proofs.Convergence.Adopting.{Adopts, tried}
use Rattle.calm_laws.proofs.Convergence.Between.{CouldAdopt}
use Rattle.calm_laws.proofs.Convergence.Coming.{Ends, Names, ends_keep}
use Rattle.calm_laws.proofs.Convergence.CommitsRising.{copies_rise}
use Rattle.calm_laws.proofs.Convergence.Enough.{enough_adopts, enough_stays}
use Rattle.calm_laws.proofs.Convergence.Going.{Handled, IsOther, NamesLow, NoneRuns, inside_handled, other_keeps}
use Rattle.calm_laws.proofs.Convergence.Happening.{Before, Happened, IsStill, IsTaken, names_none}
use Rattle.calm_laws.proofs.Convergence.Lists.{among_either}
use Rattle.calm_laws.proofs.Convergence.Midst.{Midst, copy_stays, pull_in, pull_narrow}
use Rattle.calm_laws.proofs.Convergence.Named.{named_there, names_one}
use Rattle.calm_laws.proofs.Convergence.Taking.{delta_whole, notify_whole, page_whole}
use Rattle.calm_laws.proofs.Convergence.Vectors.{above_is, adopted_low, all_true, copy_mine}
use Rattle.calm_laws.specs.Convergence.Offers.{HasEnough, MayAdopt, MayBegin, Offer, is_above, is_for, named, names, names_to, notice_in, offer_of}
use Rattle.dir_format.proofs.Whole.{found}
use Rattle.run_laws.specs.Epochs.Forming.{FormsNone}
use Rattle.file_content.specs.Pages.{pages_of}
use Rattle.locus_ids.specs.Sizes.{inode_span}
use Rattle.locus_ids.specs.declared.config.Config.{Config}
use Rattle.locus_ids.specs.declared.ids.FileId.{FileId}
use Rattle.locus_ids.specs.declared.ids.Kind.{Kind}
use Rattle.locus_ids.specs.declared.ids.Stamp.{Stamp}
use Rattle.locus_ids.specs.declared.sites.Sites.{Sites}
use Rattle.store_laws.proofs.OneTree.Rising.{among_map}
use Rattle.role_steps.proofs.of_plain_facts.Options.{none_some, some_same}
use Rattle.role_steps.proofs.of_plain_facts.Tests.{true_false}
use Rattle.role_steps.specs.Adoption.{adopts_first, copy_adopted, fits_own, has_mend, has_room, is_above_own, is_ready}
use Rattle.role_steps.specs.Epochs.{frame_in}
use Rattle.role_steps.specs.Pulling.{is_complete, is_over, on_delta, on_notify, on_page, pages_in, pull_key, pull_of, wanted_pages}
use Rattle.role_steps.specs.Storage.{copy_of, free_pages, has_open, with_version}
use Rattle.role_steps.specs.Tables.{row}
use Rattle.role_steps.specs.Views.{Frame, Outcome, Receives, SiteView, Store, Users, file_key, quiet}
use Rattle.role_steps.specs.declared.pulls.Pull.{Pull}
use Rattle.role_steps.specs.declared.rounds.InEpoch.{InEpoch}
use Rattle.role_steps.specs.declared.synchronizing.VersionRow.{VersionRow}
use Rattle.the_run.specs.Kept.{Among}
use Rattle.the_run.specs.Steps.{adopts_in, adopts_of, ends_event, takes_inside, tries_at, with_pulls}
use Rattle.the_run.specs.Worlds.{Line, Numbered, Running, World, place_at}
use Rattle.tree_laws.specs.Packets.{BodyFact}
use Rattle.tree_laws.specs.Stores.{Ascends}
use Rattle.wire_messages.specs.declared.body.Body.{Body}
use Rattle.wire_messages.specs.declared.body.Body.TheVariants as body

-- ---- what notices name ----

pub named_narrow : (c : Config) (e : InEpoch) (w : World) → Midst c e w → (s : ℕ) (o : Offer) (xs : List Numbered) → ((x : Numbered) → Among x xs → Among x w.underway) → Among o (named e s xs) → o.file.ino < inode_span
named_narrow c e w k s o [] sub a = absurd a
named_narrow c e w k s o (x ∷ xs) sub a = over (among_either o (names e s x.packet) (named e s xs) a) (λ q. named_narrow c e w k s o xs (λ y b. sub y (inr b)) q)
  where
    by_body : (b : Body) → BodyFact c w.trace x.packet b → Among o (notice_in b) → o.file.ino < inode_span
    by_body (body.Notify about what sites size stamp vector holder) f (inl q) = subst (λ (y : Offer). y.file.ino < inode_span) (sym q) (stands_narrow c w.trace k.past.rest.each about f.version.stamp f.is_version.stands)
    by_body (body.Notify about what sites size stamp vector holder) f (inr q) = absurd q
    by_body _ f q = absurd q

    by_for : (b : Bool) → Among o (names_to b x.packet.body) → o.file.ino < inode_span
    by_for true q = by_body x.packet.body (k.packets x (inr (sub x (inl refl)))) q
    by_for false q = absurd q

    over : Among o (names e s x.packet) ⊎ Among o (named e s xs) → (Among o (named e s xs) → o.file.ino < inode_span) → o.file.ino < inode_span
    over (inl q) rest = by_for (is_for e s x.packet) q
    over (inr q) rest = rest q

-- ---- one delivery ----

-- a packet comes somewhere; the member runs before and after it
pub record IsDelivered (c : Config) (e : InEpoch) (s : ℕ) (x : Numbered) (w w1 : World) (v u : SiteView) : Type 0 where
  pub before : Midst c e w
  pub after : Midst c e w1
  pub lines : List Line
  pub goes : w1.trace ≡ lines ++ w.trace
  pub here : place_at w s ≡ Some (Running v)
  pub there : place_at w1 s ≡ Some (Running u)
  pub more : List Numbered
  pub coming : Among x w.underway
  pub names : Names e s x w.underway w1.underway more

one_of_key : (ps : List Pull) → Ascends pull_key ps → (y z : Pull) → Among y ps → Among z ps → pull_key y ≡ pull_key z → y ≡ z
one_of_key ps up y z a b key = some_same y z (sym (ascends_found pull_key ps y up a) ∙ (ap (λ (k : ℕ). row pull_key k ps) key ∙ ascends_found pull_key ps z up b))

module _ (c : Config) (e : InEpoch) (s : ℕ) (x : Numbered) (w w1 : World) (v u : SiteView) (member : IsMember e s) (d : IsDelivered c e s x w w1 v u) where
  abbrev offer_key : Offer → ℕ
  offer_key o = file_key o.file

  abbrev more_keys : List ℕ
  more_keys = map offer_key (named e s d.more)

  many : length more_keys ≡ length (named e s d.more)
  many = length-map (named e s d.more) offer_key

  -- what is above the copy after the delivery was above the one before it
  above_before : (y : Pull) → Among y u.pulls → is_above y.vector (copy_of u.store y.file) ≡ true → is_above y.vector (copy_of v.store y.file) ≡ true
  above_before y a h = copies_rise c e w w1 d.lines s v u y.file d.before.past d.after.past d.goes (d.before.site s v member d.here) (d.after.site s u member d.there) (pull_narrow c w1.trace d.after.past e.id s y (pull_in c e w1 d.after s u member d.there y a)) y.vector h

  begin_before : (k : ℕ) → MayBegin e w1.underway s u k → MayBegin e w.underway s v k ⊎ Among k more_keys
  begin_before k h = over (d.names.each h.offer h.named)
    where
      none : copy_of v.store h.offer.file ≡ None
      none = copy_stays c e w w1 d.lines d.before d.after d.goes s member v u d.here d.there h.offer.file (named_narrow c e w1 d.after s h.offer w1.underway (λ y b. b) h.named) h.none

      over : Among h.offer (named e s w.underway) ⊎ Among h.offer (named e s d.more) → MayBegin e w.underway s v k ⊎ Among k more_keys
      over (inl a) = inl (record { offer = h.offer; named = a; key = h.key; none = none })
      over (inr a) = inr (subst (λ (i : ℕ). Among i more_keys) h.key (among_map offer_key h.offer (named e s d.more) a))

  -- where nothing becomes whole, and no notice comes to the member
  pub quiet_enough : ((y : Pull) → Among y u.pulls → Among y v.pulls) → length (names e s x.packet) ≤ 0 → HasEnough e w.underway s v → HasEnough e w1.underway s u
  quiet_enough same none h = enough_stays e w.underway w1.underway s v u more_keys before (let sum : _ ≤ _ = d.names.count in let q : length more_keys ≡ length (named e s d.more) = many in omega (arith, sum, none, q)) h
    where
      begins : (k : ℕ) → MayBegin e w.underway s v k ⊎ Among k more_keys → MayAdopt e w.underway s v k ⊎ Among k more_keys
      begins k (inl b) = inl (inr b)
      begins k (inr b) = inr b

      before : (k : ℕ) → MayAdopt e w1.underway s u k → MayAdopt e w.underway s v k ⊎ Among k more_keys
      before k (inl a) = inl (inl (record { pull = a.pull; there = same a.pull a.there; key = a.key; whole = a.whole; above = above_before a.pull a.there a.above }))
      before k (inr b) = begins k (begin_before k b)

  -- what is whole after the packet was taken, above the copy that the member had, could be adopted before, or is among these
  abbrev pub WasSo : List Pull → List ℕ → Type 0
  WasSo ps joins = (y : Pull) → Among y ps → is_complete y ≡ true → is_above y.vector (copy_of v.store y.file) ≡ true → MayAdopt e w.underway s v (pull_key y) ⊎ Among (pull_key y) joins

  -- an adoption was tried then, where one pull could be adopted: a notice came, or what one file needed
  pub tried_enough : (mid : SiteView) (joins : List ℕ) (k : ℕ) (could : Pull) (o : Outcome SiteView) → mid.store ≡ v.store → Ascends pull_key mid.pulls → Adopts mid.pulls mid k could o → u.store ≡ o.view.store → u.pulls ≡ o.view.pulls → WasSo mid.pulls joins → length joins + length (names e s x.packet) ≤ 1 →
      HasEnough e w.underway s v → HasEnough e w1.underway s u
  tried_enough mid joins k could o store up a store_is pulls_is was few h = enough_adopts e w.underway w1.underway s v u (pull_key a.adopted) joins more_keys could_before gone before
      (let sum : _ ≤ _ = d.names.count in let q : length more_keys ≡ length (named e s d.more) = many in omega (arith, sum, few, q)) h
    where
      could_before : MayAdopt e w.underway s v (pull_key a.adopted) ⊎ Among (pull_key a.adopted) joins
      could_before = was a.adopted a.there a.whole (ap (λ (z : Store). is_above a.adopted.vector (copy_of z a.adopted.file)) (sym store) ∙ a.above)

      is_store : u.store ≡ with_version (copy_adopted a.adopted a.own) (wanted_pages a.adopted) mid.store
      is_store = store_is ∙ a.store

      among_mid : (y : Pull) → Among y u.pulls → Among y mid.pulls
      among_mid y b = a.pulls y (subst (λ (ps : List Pull). Among y ps) pulls_is b)

      gone : MayAdopt e w1.underway s u (pull_key a.adopted) → ⊥
      gone (inl z) =
          let same : z.pull ≡ a.adopted = one_of_key mid.pulls up z.pull a.adopted (among_mid z.pull z.there) a.there z.key in
          true_false (sym z.above ∙ (ap (λ (y : Pull). is_above y.vector (copy_of u.store y.file)) same ∙ (ap (λ (q : Store). is_above a.adopted.vector (copy_of q a.adopted.file)) is_store ∙ adopted_low a.adopted a.own (wanted_pages a.adopted) mid.store)))
      gone (inr z) = none_some (copy_adopted a.adopted a.own) (sym z.none ∙ (ap (λ (q : Store). copy_of q z.offer.file) is_store ∙ copy_mine a.adopted a.own (wanted_pages a.adopted) mid.store z.offer.file (sym z.key)))

      from_before : (i : ℕ) → MayAdopt e w.underway s v i ⊎ Among i joins → MayAdopt e w.underway s v i ⊎ (Among i joins ⊎ Among i more_keys)
      from_before i (inl z) = inl z
      from_before i (inr z) = inr (inl z)

      begins : (i : ℕ) → MayBegin e w.underway s v i ⊎ Among i more_keys → MayAdopt e w.underway s v i ⊎ (Among i joins ⊎ Among i more_keys)
      begins i (inl z) = inl (inr z)
      begins i (inr z) = inr (inr z)

      before : (i : ℕ) → MayAdopt e w1.underway s u i → MayAdopt e w.underway s v i ⊎ (Among i joins ⊎ Among i more_keys)
      before i (inl z) = subst (λ (j : ℕ). MayAdopt e w.underway s v j ⊎ (Among j joins ⊎ Among j more_keys)) z.key (from_before (pull_key z.pull) (was z.pull (among_mid z.pull z.there) z.whole (above_before z.pull z.there z.above)))
      before i (inr z) = begins i (begin_before i z)

  -- ---- what comes to the member ----

  -- the pull of a file at rest can be adopted, and there is room for it
  pub record CanAdopt (file : FileId) (ver : VersionRow) : Type 0 where
    pub could : CouldAdopt v file ver
    pub few : length (wanted_pages could.pulls.pull) ≤ pages_of ver.size
    pub room : nat_le (pages_of ver.size) (free_pages v.store file.group) ≡ true
    pub above : is_above ver.vector (copy_of v.store file) ≡ true

  room_for : (n m k : ℕ) → n ≤ m → nat_le m k ≡ true → nat_le n k ≡ true
  room_for n m k le h = grind (arith, nat_tests)

  module _ (file : FileId) (ver : VersionRow) (can : CanAdopt file ver) where
    abbrev p : Pull
    p = can.could.pulls.pull

    is_file : p.file ≡ file
    is_file = ap (λ (o : Offer). o.file) can.could.pulls.offer

    -- the handler left the store and the calls, and its pull as it was
    ready_then : (mid : SiteView) → mid.store ≡ v.store → mid.users ≡ v.users → is_ready mid p ≡ true
    ready_then mid store users = all_true (is_complete p) (has_room mid.store p) (has_open mid.store p.file) (has_mend mid.users p.file) can.could.whole
        (ap (λ (z : Store). has_room z p) store ∙ (ap (λ (f : FileId). nat_le (length (wanted_pages p)) (free_pages v.store f.group)) is_file ∙ room_for (length (wanted_pages p)) (pages_of ver.size) (free_pages v.store file.group) can.few can.room))
        (ap (λ (z : Store). has_open z p.file) store ∙ (ap (has_open v.store) is_file ∙ can.could.closed))
        (ap (λ (z : Users). has_mend z p.file) users ∙ (ap (has_mend v.users) is_file ∙ can.could.unmended))

    fits_then : (mid : SiteView) → mid.store ≡ v.store → fits_own p (copy_of mid.store p.file) ≡ true
    fits_then mid store = both (is_over (copy_of mid.store p.file) p.base) (is_above_own p (copy_of mid.store p.file))
        (ap (λ (z : Store). is_over (copy_of z p.file) p.base) store ∙ (ap (λ (f : FileId). is_over (copy_of v.store f) p.base) is_file ∙ can.could.pulls.over))
        (above_is p (copy_of mid.store p.file) ∙ (ap (λ (z : Store). is_above p.vector (copy_of z p.file)) store ∙ (ap (λ (f : FileId). is_above p.vector (copy_of v.store f)) is_file ∙ (ap (λ (o : Offer). is_above o.vector (copy_of v.store file)) can.could.pulls.offer ∙ can.above))))
      where
        both : (a b : Bool) → a ≡ true → b ≡ true → (a && b) ≡ true
        both true true q z = refl
        both true false q z = absurd (true_false (sym z))
        both false b q z = absurd (true_false (sym q))

    -- the packet gave these pulls, of which one stays, and then an adoption was tried
    pub packed_enough : (mid : SiteView) (joins : List ℕ) → mid.store ≡ v.store → mid.users ≡ v.users → mid.epoch ≡ Some e → Ascends pull_key mid.pulls → pull_of mid.pulls file ≡ Some p → u.store ≡ (adopts_in c s mid).view.store → u.pulls ≡ (adopts_in c s mid).view.pulls → WasSo mid.pulls joins → length joins + length (names e s x.packet) ≤ 1 →
        HasEnough e w.underway s v → HasEnough e w1.underway s u
    packed_enough mid joins store users inside up found store_is pulls_is was few h =
        tried_enough mid joins (file_key file) p (adopts_first f mid.pulls mid) store up
        (tried f mid.pulls mid.pulls mid (file_key file) p (λ y a. a) (λ y a. a) found found (ready_then mid store users) (fits_then mid store))
        (store_is ∙ ap (λ (o : Outcome SiteView). o.view.store) is_try) (pulls_is ∙ ap (λ (o : Outcome SiteView). o.view.pulls) is_try) was few h
      where
        f : Frame
        f = frame_in c s mid.boot e

        is_try : adopts_in c s mid ≡ adopts_first f mid.pulls mid
        is_try = ap (λ (o : Option InEpoch). adopts_of c s o mid) inside

    -- ---- the packet ----

    not_one : (b : Body) → (notice_in b ≡ []) → length (names_to (is_for e s x.packet) b) ≤ 0
    not_one b none = over (is_for e s x.packet)
      where
        over : (t : Bool) → length (names_to t b) ≤ 0
        over true = subst (λ (l : List Offer). length l ≤ 0) (sym none) (omega arith)
        over false = omega arith

    -- what the member has then, but for its calls
    record IsLeft (last : SiteView) : Type 0 where
      store : u.store ≡ last.store
      pulls : u.pulls ≡ last.pulls

    module _ (last : SiteView) (left : IsLeft last) (t : IsTaken c e s v last x.packet) (b : Before c e s v) (for : is_for e s x.packet ≡ true) (none : NoneRuns v file) (low : NamesLow x.packet.body file ver) (h : HasEnough e w.underway s v) where
      abbrev f : Frame
      f = frame_of c e s

      up : Ascends pull_key v.pulls
      up = d.before.ascend s v d.here

      after_body : (z : Body) → x.packet.body ≡ z → last ≡ (tries_at c s z (takes_inside f x.packet.from z v).view).view
      after_body z is = t.is ∙ ap (λ (y : Body). (tries_at c s y (takes_inside f x.packet.from y v).view).view) is

      handled : (z : Body) → x.packet.body ≡ z → Handled v (takes_inside f x.packet.from z v).view file ver p
      handled z is = inside_handled f x.packet.from v file ver can.could.pulls up none z (subst (λ (y : Body). NamesLow y file ver) is low)

      still_there : (z : Body) → x.packet.body ≡ z → pull_of (takes_inside f x.packet.from z v).view.pulls file ≡ Some p
      still_there z is = (let k : Handled v (takes_inside f x.packet.from z v).view file ver p = handled z is in k.pulls.found ∙ ap (λ (y : Pull). Some y) (k.whole can.could.whole))

      names_less : (z : Body) → x.packet.body ≡ z → notice_in z ≡ [] → length (names e s x.packet) ≤ 0
      names_less z is nothing = not_one x.packet.body (ap notice_in is ∙ nothing)

      by_notice : (about : FileId) (what : Kind) (sites : Sites) (size : ℕ) (stamp : Stamp) (vector : List ℕ) (holder : ℕ) → x.packet.body ≡ body.Notify about what sites size stamp vector holder → HasEnough e w1.underway s u
      by_notice about what sites size stamp vector holder is = packed_enough (with_pulls v (on_notify f x.packet.from (copy_of v.store about) n v.pulls).view) [] refl refl b.epoch (handled it is).ascend (still_there it is)
          (left.store ∙ ap (λ (y : SiteView). y.store) (after_body it is)) (left.pulls ∙ ap (λ (y : SiteView). y.pulls) (after_body it is)) was (let q : _ ≤ _ = names_one e s x.packet in omega (arith, q)) h
        where
          it : Body
          it = body.Notify about what sites size stamp vector holder

          n : Pull
          n = record { file = about; kind = what; set = sites; size = size; stamp = stamp; vector = vector; holder = holder; base = None; wanted = None; content = [] }

          offer : Offer
          offer = record { file = about; stamp = stamp; vector = vector }

          here_named : Among offer (named e s w.underway)
          here_named = named_there e s offer x w.underway d.coming (subst (λ (l : List Offer). Among offer l) (sym (ap (λ (k : Bool). names_to k x.packet.body) for ∙ ap (names_to true) is)) (inl refl))

          -- pulled before, or the version that the notice names, of which the site has no copy
          was : WasSo (on_notify f x.packet.from (copy_of v.store about) n v.pulls).view []
          was y a whole above = over (notify_whole f x.packet.from (copy_of v.store about) n v.pulls y a whole)
            where
              over : Among y v.pulls ⊎ ((copy_of v.store about ≡ None) × (offer_of y ≡ offer_of n)) → MayAdopt e w.underway s v (pull_key y) ⊎ Among (pull_key y) []
              over (inl z) = inl (inl (record { pull = y; there = z; key = refl; whole = whole; above = above }))
              over (inr z) = inl (inr (record { offer = offer; named = here_named; key = ap (λ (o : Offer). file_key o.file) (sym z.1); none = z.0 }))

      -- what is whole was so before, or is of the file that the packet is about
      by_pages : (z : Body) → x.packet.body ≡ z → notice_in z ≡ [] → (about : FileId) (ps : List Pull) → (takes_inside f x.packet.from z v).view ≡ with_pulls v ps → tries_at c s z (takes_inside f x.packet.from z v).view ≡ adopts_in c s (takes_inside f x.packet.from z v).view → ((y : Pull) → Among y ps → Among y v.pulls ⊎ (pull_key y ≡ file_key about)) → HasEnough e w1.underway s u
      by_pages z is nothing about ps mid_is tries whole_of = packed_enough mid (file_key about ∷ []) (ap (λ (y : SiteView). y.store) mid_is) (ap (λ (y : SiteView). y.users) mid_is) (ap (λ (y : SiteView). y.epoch) mid_is ∙ b.epoch) (handled z is).ascend (still_there z is)
          (left.store ∙ (ap (λ (y : SiteView). y.store) (after_body z is) ∙ ap (λ (o : Outcome SiteView). o.view.store) tries)) (left.pulls ∙ (ap (λ (y : SiteView). y.pulls) (after_body z is) ∙ ap (λ (o : Outcome SiteView). o.view.pulls) tries)) was (let q : _ ≤ _ = names_less z is nothing in omega (arith, q)) h
        where
          mid : SiteView
          mid = (takes_inside f x.packet.from z v).view

          was : WasSo mid.pulls (file_key about ∷ [])
          was y a whole above = over (whole_of y (subst (λ (l : List Pull). Among y l) (ap (λ (q : SiteView). q.pulls) mid_is) a))
            where
              over : Among y v.pulls ⊎ (pull_key y ≡ file_key about) → MayAdopt e w.underway s v (pull_key y) ⊎ Among (pull_key y) (file_key about ∷ [])
              over (inl k) = inl (inl (record { pull = y; there = k; key = refl; whole = whole; above = above }))
              over (inr k) = inr (inl k)

      -- what it pulls stays
      by_rest : (z : Body) → x.packet.body ≡ z → notice_in z ≡ [] → (takes_inside f x.packet.from z v).view.pulls ≡ v.pulls → tries_at c s z (takes_inside f x.packet.from z v).view ≡ quiet (takes_inside f x.packet.from z v).view → HasEnough e w1.underway s u
      by_rest z is nothing pulls tries = quiet_enough (λ y a. subst (λ (l : List Pull). Among y l) (left.pulls ∙ (ap (λ (q : SiteView). q.pulls) (after_body z is) ∙ (ap (λ (o : Outcome SiteView). o.view.pulls) tries ∙ pulls))) a) (names_less z is nothing) h

      tries_quiet : (z : Body) (y : SiteView) → IsOther z → tries_at c s z y ≡ quiet y
      tries_quiet (body.Notify about what sites size stamp vector holder) y k = absurd k
      tries_quiet (body.Page about stamp page bytes) y k = absurd k
      tries_quiet (body.Delta about wanted pages) y k = absurd k
      tries_quiet _ y k = refl

      notice_none : (z : Body) → IsOther z → notice_in z ≡ []
      notice_none (body.Notify about what sites size stamp vector holder) k = absurd k
      notice_none _ k = refl

      by_other : (z : Body) → IsOther z → x.packet.body ≡ z → HasEnough e w1.underway s u
      by_other z k is = by_rest z is (notice_none z k) (other_keeps f x.packet.from z v k).pulls (tries_quiet z (takes_inside f x.packet.from z v).view k)

      by_body : (z : Body) → x.packet.body ≡ z → HasEnough e w1.underway s u
      by_body (body.Notify about what sites size stamp vector holder) is = by_notice about what sites size stamp vector holder is
      by_body (body.Page about stamp page bytes) is = by_pages (body.Page about stamp page bytes) is refl about (on_page f about stamp page bytes v.pulls).view refl refl (page_whole f stamp page bytes about v.pulls)
      by_body (body.Delta about wanted pages) is = by_pages (body.Delta about wanted pages) is refl about (on_delta f (copy_of v.store about) about wanted pages v.pulls).view refl refl (delta_whole f (pages_in (copy_of v.store about)) wanted pages about v.pulls)
      by_body (body.Op serial n o seen) is = by_rest (body.Op serial n o seen) is refl refl refl
      by_body (body.ReadHeld serial n at len) is = by_rest (body.ReadHeld serial n at len) is refl refl refl
      by_body (body.Close serial) is = by_rest (body.Close serial) is refl refl refl
      by_body z is = by_other z tt is

      taken_enough : HasEnough e w1.underway s u
      taken_enough = by_body x.packet.body refl

    -- the delivery leaves enough notices
    pub delivered_enough : Happened c e s v u (Receives x.packet) → Before c e s v → (FormsNone x.packet.body → is_for e s x.packet ≡ true) → NoneRuns v file → (x.packet.epoch ≡ e.id → NamesLow x.packet.body file ver) → HasEnough e w.underway s v → HasEnough e w1.underway s u
    delivered_enough k b for none low h = by_kind k.by
      where
        ends : Ends k.last (ends_event c s k.links k.last).view
        ends = ends_keep c s k.links k.last e k.round k.epoch

        left : IsLeft k.last
        left = record { store = ap (λ (y : SiteView). y.store) k.ended ∙ ends.store; pulls = ap (λ (y : SiteView). y.pulls) k.ended ∙ ends.pulls }

        by_kind : IsTaken c e s v k.last x.packet ⊎ IsStill v k.last x.packet.body → HasEnough e w1.underway s u
        by_kind (inl t) = taken_enough k.last left t b (for t.forms) none (low t.epoch) h
        by_kind (inr q) = quiet_enough (λ y a. subst (λ (l : List Pull). Among y l) (left.pulls ∙ q.pulls) a) (not_one x.packet.body (names_none x.packet.body q.forms)) h
