-- What is pulled in the view in which an adoption is tried: laid over the site's own copy it makes the version, has the bytes of each page
-- that didn't come, and takes no more pages than this copy and those that came.
use Rattle.std.proofs.Common.{◌≡◌, ◌≤◌, ◌<◌, ℕ, suc, ◌+◌, ◌-◌, ◌*◌, ◌==◌, ⊎_elim, inl, inr, Bool, true, false, cond, List, [], ◌∷◌, length, take, drop, refl, sym, ap, subst, ◌∙◌, arith, length-take, length-drop}
use Rattle.std.specs.Prelude.{Option, None, Some, ◌⊎◌, ◌||◌, nat_le, nat_lt, max}
use Rattle.std.proofs.lemmas.Bool.{false≢true, eq-eqb, cases_lt}
use Rattle.std.proofs.lemmas.Bool.Decides.{nat_tests}
use Rattle.std.specs.Option.{option_map}
use Rattle.locus_ids.specs.Sizes.{inode_span, page_bytes}
use Rattle.locus_ids.specs.declared.config.Config.{Config}
use Rattle.locus_ids.specs.declared.ids.FileId.{FileId}
use Rattle.locus_ids.specs.declared.ids.Stamp.{Stamp}
use Rattle.file_content.specs.Pages.{pages_of, page_of, has_page}
use Rattle.wire_messages.specs.Bodies.{kind_number}
use Rattle.wire_messages.specs.declared.body.Body.{Body}
use Rattle.wire_messages.specs.declared.body.Body.TheVariants as body
use Rattle.wire_messages.specs.declared.packet.Packet.{Packet}
use Rattle.role_steps.proofs.of_plain_facts.Tests.{and_first, and_second}
use Rattle.role_steps.specs.Adoption.{content_adopted, fits_own}
use Rattle.role_steps.specs.Epochs.{frame_in}
use Rattle.role_steps.specs.Own.{Every}
use Rattle.role_steps.specs.Pulling.{ascend_from, bytes_in, is_complete, pull_of, pages_in, wanted_pages}
use Rattle.role_steps.specs.Storage.{content_of, copy_of, copy_pages}
use Rattle.role_steps.specs.Views.{Event, Frame, Outcome, Receives, SiteView, Store, Ticks, Told, Calls, Parts, Merges, GivesUp}
use Rattle.role_steps.specs.declared.copies.FileCopy.{FileCopy}
use Rattle.role_steps.specs.declared.pulls.Pull.{Pull}
use Rattle.role_steps.specs.declared.rounds.InEpoch.{InEpoch}
use Rattle.the_run.specs.Kept.{Among}
use Rattle.the_run.specs.Steps.{is_dropped, takes_framed, takes_inside}
use Rattle.the_run.specs.Worlds.{Line, told_onto}
use Rattle.tree_laws.specs.Deltas.{AgreeBut}
use Rattle.tree_laws.specs.Doing.{StoreHeld}
use Rattle.tree_laws.specs.Instances.{Stands}
use Rattle.tree_laws.specs.Printed.{entries}
use Rattle.tree_laws.specs.Stores.{PullFact, copy_for}
use Rattle.tree_model.specs.Files.{HeldVersion, held_version}
use Rattle.store_laws.specs.OneTree.Places.{SiteFact, SiteIn}
use Rattle.store_laws.specs.OneTree.Rest.{AllRest, Past}
use Rattle.store_laws.specs.OneTree.Roles.{EventFact, RolesDo}
use Rattle.store_laws.specs.OneTree.Wants.{Arrives}
use Rattle.rest_laws.proofs.MendStepRows.{any_among}
use Rattle.rest_laws.proofs.StoreStepResting.{store_rests}
use Rattle.store_laws.proofs.Adopting.{pulled_agree, pulled_content}
use Rattle.store_laws.proofs.OneTree.Steps.{framed}
use Rattle.site_laws.proofs.Locks.StepFacts.{SiteSilent, delta_silent, framed_notify, notify_silent, page_silent}
use Rattle.rest_laws.proofs.Fits.RoomSites.{EventRoom, PullRoom, PullsRoom, TakesRoom}
use Rattle.rest_laws.proofs.Fits.Totals.{measured}

-- ---- pages that didn't come ----

-- of a page that isn't among those that differ there are the bytes
pub has_bytes : (under content pages : List ℕ) (size : ℕ) → length content ≡ size → AgreeBut under content pages → (page : ℕ) → page < pages_of size → has_page pages page ≡ false → bytes_in size page ≤ bytes_in (length under) page
has_bytes under content pages size long agree page lt none = over (agree page (subst (λ (n : ℕ). page < pages_of n) (sym long) lt))
  where
    over : Among page pages ⊎ (page_of content page ≡ take (bytes_in (length content) page) (page_of under page)) → bytes_in size page ≤ bytes_in (length under) page
    over (inl among) = absurd (false≢true (sym none ∙ any_among (λ (q : ℕ). q == page) pages page among (eq-eqb page page refl)))
    over (inr e) =
        let same = ap (λ (l : List ℕ). length l) e in
        omega (arith, same, long, length-take page_bytes (drop (page_bytes * page) content), length-drop (page_bytes * page) content, length-take (bytes_in (length content) page) (page_of under page), length-take page_bytes (drop (page_bytes * page) under), length-drop (page_bytes * page) under)

-- pages from a number on that stand in an ascending list are no more than the list has
span : (least from count : ℕ) (pages : List ℕ) → ascend_from least pages ≡ true → ((page : ℕ) → least ≤ page → from ≤ page → page < count → has_page pages page ≡ true) → count ≤ max from least + length pages
span least from count [] rise all = ⊎_elim
    (λ (lt : max from least < count). absurd (false≢true (all (max from least) (omega arith) (omega arith) lt)))
    (λ (le : count ≤ max from least). omega arith)
    (cases_lt (max from least) count)
span least from count (x ∷ xs) rise all = ⊎_elim
    (λ (near : x < suc (max from least)).
    let rest = span (suc x) from count xs (and_second (nat_le least x) (ascend_from (suc x) xs) rise) (λ page low high lt. tail page low (all page (before page low) high lt)) in
    omega arith)
    (λ (far : suc (max from least) ≤ x). ⊎_elim
    (λ (lt : max from least < count). absurd (false≢true (sym (absent xs (suc x) (max from least) (and_second (nat_le least x) (ascend_from (suc x) xs) rise) (omega arith)) ∙ tail_far (max from least) far (all (max from least) (omega arith) (omega arith) lt))))
    (λ (le : count ≤ max from least). omega arith)
    (cases_lt (max from least) count))
    (cases_lt x (suc (max from least)))
  where
    low_x : least ≤ x
    low_x = let e = and_first (nat_le least x) (ascend_from (suc x) xs) rise in grind (arith, nat_tests, e)

    before : (page : ℕ) → suc x ≤ page → least ≤ page
    before page low = let l = low_x in omega (arith, low, l)

    other : (page : ℕ) → (x == page) ≡ false → has_page (x ∷ xs) page ≡ true → has_page xs page ≡ true
    other page ne has = by_test (x == page) ne has
      where
        by_test : (b : Bool) → b ≡ false → (b || has_page xs page) ≡ true → has_page xs page ≡ true
        by_test true e h = absurd (false≢true (sym e))
        by_test false e h = h

    tail : (page : ℕ) → suc x ≤ page → has_page (x ∷ xs) page ≡ true → has_page xs page ≡ true
    tail page low = other page (let e : (x == page) ≡ false = grind (arith, nat_tests, low) in e)

    tail_far : (page : ℕ) → suc page ≤ x → has_page (x ∷ xs) page ≡ true → has_page xs page ≡ true
    tail_far page far = other page (let e : (x == page) ≡ false = grind (arith, nat_tests, far) in e)

    -- none of them is below the first
    absent : (ys : List ℕ) (low page : ℕ) → ascend_from low ys ≡ true → page < low → has_page ys page ≡ false
    absent [] low page rise lt = refl
    absent (y ∷ ys) low page rise lt =
        let e = and_first (nat_le low y) (ascend_from (suc y) ys) rise in
        let least_y : low ≤ y = grind (arith, nat_tests, e) in
        let ne : (y == page) ≡ false = grind (arith, nat_tests, least_y, lt) in
        ap (λ (b : Bool). b || has_page ys page) ne ∙ absent ys (suc y) page (and_second (nat_le low y) (ascend_from (suc y) ys) rise) (omega arith)

-- the version takes no more pages than what it is laid over and the pages that differ
pages_more : (under content pages : List ℕ) (size : ℕ) → length content ≡ size → AgreeBut under content pages → ascend_from 0 pages ≡ true → pages_of size ≤ pages_of (length under) + length pages
pages_more under content pages size long agree rise =
    let all = span 0 (pages_of (length under)) (pages_of size) pages rise (λ page low from lt. over page from lt (has_page pages page) refl) in
    omega arith
  where
    over : (page : ℕ) → pages_of (length under) ≤ page → page < pages_of size → (b : Bool) → has_page pages page ≡ b → has_page pages page ≡ true
    over page from lt true e = e
    over page from lt false e = (let bytes = has_bytes under content pages size long agree page lt e in absurd (omega arith))

-- ---- a pull ----

module _ (c : Config) (t : List Line) (past : Past c t) (f : Frame) (s : Store) (held : StoreHeld c f t s) (p : Pull) (k : PullFact c t f.epoch f.me p) where
  pub pull_kept : is_complete p ≡ true → fits_own p (copy_of s p.file) ≡ true → (page : ℕ) → page < pages_of p.size → has_page (wanted_pages p) page ≡ false → bytes_in p.size page ≤ bytes_in (length (content_of (copy_of s p.file))) page
  pull_kept complete fits = has_bytes (content_of (copy_of s p.file)) k.version.content (wanted_pages p) p.size k.size_is (pulled_agree c t (store_rests c t past) f s held p k complete fits)

  -- the copy is of the file
  file_is : (x : FileCopy) → copy_of s p.file ≡ Some x → x.file ≡ p.file
  file_is x e = over (held_version c (entries t) f.me p.file) (sym e ∙ held.copies.are p.file narrow)
    where
      narrow : p.file.ino < inode_span
      narrow = (store_rests c t past).narrow p.file p.stamp (subst (λ (y : Stamp). Stands c t p.file y) k.stamp_is k.is_version.stands)

      over : (o : Option HeldVersion) → ◌≡◌ {A = Option FileCopy} (Some x) (option_map (copy_for p.file) o) → x.file ≡ p.file
      over None q = absurd (let g : ◌≡◌ {A = Option FileCopy} (Some x) None = q in cc)
      over (Some v) q = (let g : x ≡ copy_for p.file v = cc in ap (λ (y : FileCopy). y.file) g)

  own_pages : (g : ℕ) (o : Option FileCopy) → copy_of s p.file ≡ o → cond (p.file.group == g) (pages_of (length (content_of o))) 0 ≤ measured (copy_pages g) o
  own_pages g None e = none (p.file.group == g)
    where
      none : (b : Bool) → cond b (pages_of 0) 0 ≤ 0
      none true = omega arith
      none false = omega arith
  own_pages g (Some x) e = (let same = ap (λ (y : FileId). cond (y.group == g) (pages_of (length x.content)) 0) (file_is x e) in omega (arith, same))

  pub pull_room : PullRoom s p
  pull_room complete fits g = over (p.file.group == g) (own_pages g (copy_of s p.file) refl)
    where
      made : pages_of (length (content_adopted p (content_of (copy_of s p.file)))) ≤ pages_of (length (content_of (copy_of s p.file))) + length (wanted_pages p)
      made =
          let long : length (content_adopted p (content_of (copy_of s p.file))) ≡ p.size = ap (λ (l : List ℕ). length l) (pulled_content c t (store_rests c t past) f s held p k complete fits) ∙ k.size_is in
          let more = pages_more (content_of (copy_of s p.file)) k.version.content (wanted_pages p) p.size k.size_is (pulled_agree c t (store_rests c t past) f s held p k complete fits) k.rising in
          subst (λ (n : ℕ). pages_of n ≤ pages_of (length (content_of (copy_of s p.file))) + length (wanted_pages p)) (sym long) more

      over : (b : Bool) → cond b (pages_of (length (content_of (copy_of s p.file)))) 0 ≤ measured (copy_pages g) (copy_of s p.file) →
          cond b (pages_of (length (content_adopted p (content_of (copy_of s p.file))))) 0 ≤ measured (copy_pages g) (copy_of s p.file) + cond b (length (wanted_pages p)) 0
      over true own = (let m = made in omega (arith, own, m))
      over false own = omega (arith, own)

-- ---- a site ----

all_room : (c : Config) (t : List Line) → Past c t → (f : Frame) (s : Store) → StoreHeld c f t s → (ps : List Pull) → Every (PullFact c t f.epoch f.me) ps → Every (PullRoom s) ps
all_room c t past f s held [] h = tt
all_room c t past f s held (p ∷ ps) h = (pull_room c t past f s held p h.0, all_room c t past f s held ps h.1)

pub site_room : (c : Config) (t : List Line) → Past c t → (me : ℕ) (v : SiteView) (o : Option InEpoch) → SiteIn c me t v o → PullsRoom v
site_room c t past me v None h = record { ascends = h.copies.ascends; pulls = subst (Every (PullRoom v.store)) (sym h.pulls) tt }
site_room c t past me v (Some e) h = record { ascends = h.store.copies.ascends; pulls = all_room c t past (frame_in c me v.boot e) v.store h.store v.pulls h.pulls }

-- ---- the view in which an adoption is tried ----

abbrev pub IsTried : Body → Type 0
IsTried (body.Notify file kind set size stamp vector holder) = Unit {0}
IsTried (body.Page file stamp page bytes) = Unit {0}
IsTried (body.Delta file wanted pages) = Unit {0}
IsTried _ = ⊥

module _ (c : Config) (roles : RolesDo c) (t : List Line) (past : Past c t) (p : Packet) (v : SiteView) (fact : SiteFact c p.to t v) (comes : Arrives c t p v) (taken : is_dropped p v ≡ false) where
  taken_view : (x : Body) → p.body ≡ x → nat_lt (kind_number x) 6 ≡ false → ((f : Frame) → SiteSilent (takes_inside f p.from x v)) → SiteFact c p.to t (takes_framed c p.to p v.epoch v).view
  taken_view x is inside silent = subst (λ (told : List Told). SiteFact c p.to (told_onto 0 told t) o.view) s.0 (framed c roles 0 t p x v.epoch v is inside taken past refl fact comes (subst (AllRest c 0 t) (sym s.0) tt)).view
    where
      o : Outcome SiteView
      o = takes_framed c p.to p v.epoch v

      s : SiteSilent o
      s = framed_notify c p.to p x v.epoch v is silent

  -- all that the site has is then as it was told before
  pub tried_view : (x : Body) → p.body ≡ x → IsTried x → SiteFact c p.to t (takes_framed c p.to p v.epoch v).view
  tried_view (body.Notify file kind set size stamp vector holder) is e = taken_view (body.Notify file kind set size stamp vector holder) is refl
      (λ f. notify_silent f p.from (copy_of v.store file) (record { file = file; kind = kind; set = set; size = size; stamp = stamp; vector = vector; holder = holder; base = None; wanted = None; content = [] }) v.pulls)
  tried_view (body.Page file stamp page bytes) is e = taken_view (body.Page file stamp page bytes) is refl (λ f. page_silent f stamp page bytes (pull_of v.pulls file) v.pulls)
  tried_view (body.Delta file wanted pages) is e = taken_view (body.Delta file wanted pages) is refl (λ f. delta_silent f (pages_in (copy_of v.store file)) wanted pages (pull_of v.pulls file) v.pulls)
  tried_view _ is e = absurd e

  tried_room : (x : Body) → p.body ≡ x → IsTried x → PullsRoom (takes_framed c p.to p v.epoch v).view
  tried_room x is e = site_room c t past p.to (takes_framed c p.to p v.epoch v).view (takes_framed c p.to p v.epoch v).view.epoch (tried_view x is e)

  takes_room : (x : Body) → p.body ≡ x → TakesRoom c p.to p x v
  takes_room (body.Notify file kind set size stamp vector holder) is = tried_room (body.Notify file kind set size stamp vector holder) is tt
  takes_room (body.Page file stamp page bytes) is = tried_room (body.Page file stamp page bytes) is tt
  takes_room (body.Delta file wanted pages) is = tried_room (body.Delta file wanted pages) is tt
  takes_room _ is = tt

  pub packet_room : TakesRoom c p.to p p.body v
  packet_room = takes_room p.body refl

pub event_room : (c : Config) → RolesDo c → (t : List Line) → Past c t → (me : ℕ) (v : SiteView) (e : Event) → SiteFact c me t v → EventFact c t me v e → EventRoom c me v e
event_room c roles t past me v (Calls process words) fact comes = tt
event_room c roles t past me v (Receives p) fact comes = λ taken. subst (λ (n : ℕ). TakesRoom c n p p.body v) comes.0 (packet_room c roles t past p v (subst (λ (n : ℕ). SiteFact c n t v) (sym comes.0) fact) comes.1 taken)
event_room c roles t past me v Ticks fact comes = site_room c t past me v v.epoch fact
event_room c roles t past me v Parts fact comes = tt
event_room c roles t past me v Merges fact comes = tt
event_room c roles t past me v GivesUp fact comes = tt
