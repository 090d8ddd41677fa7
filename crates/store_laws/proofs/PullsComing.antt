-- What comes of a version that is pulled: which pages are to be pulled, and one page after another.
use Rattle.std.proofs.Common.{◌≡◌, ℕ, suc, ◌+◌, ◌*◌, ◌-◌, ◌<◌, ◌≤◌, ◌==◌, min, Bool, true, false, not, ◌&&◌, List, [], ◌∷◌, ◌++◌, length, Option, Some, None, refl, sym, ◌∙◌, ap, subst, arith, ◌⊎◌, inl, inr}
use Rattle.std.specs.Prelude.{nat_lt, slice_index}
use Rattle.std.specs.List.{list_all}
use Rattle.std.specs.Option.{is_some, option_map}
use Rattle.std.proofs.lemmas.Bool.Decides.{nat_tests}
use Rattle.std.proofs.lemmas.List.{length-append}
use Rattle.role_steps.proofs.of_plain_facts.Numbers.{equal, less}
use Rattle.role_steps.proofs.of_plain_facts.Options.{none_some, some_same}
use Rattle.role_steps.proofs.of_plain_facts.Tests.{and_first, and_second, true_false}
use Rattle.locus_ids.specs.declared.config.Config.{Config}
use Rattle.locus_ids.specs.declared.ids.EpochId.{EpochId}
use Rattle.locus_ids.specs.declared.ids.FileId.{FileId}
use Rattle.locus_ids.specs.declared.ids.Stamp.{Stamp}
use Rattle.locus_ids.specs.Sizes.{inode_span, page_bytes}
use Rattle.commit_graph.specs.Vectors.{vector_of}
use Rattle.commit_graph.specs.Versions.{content_of, is_version, same_stamp}
use Rattle.file_content.specs.Pages.{page_of, pages_from, pages_of}
use Rattle.role_steps.specs.Own.{Every}
use Rattle.role_steps.specs.Pulling.{are_delta, ascend_from, bytes_in, goes_on, is_awaited, is_complete, is_delta, next_page, on_delta, on_delta_of, on_page, on_page_of, pages_got, pages_in, pull_key, pull_of, wanted_pages}
use Rattle.role_steps.specs.Versions.{is_below}
use Rattle.role_steps.specs.Views.{Frame, file_key, quiet}
use Rattle.role_steps.specs.declared.copies.FileCopy.{FileCopy}
use Rattle.role_steps.specs.declared.pulls.Pull.{Pull}
use Rattle.the_run.specs.Worlds.{Line}
use Rattle.tree_model.specs.Epochs.{has_joined}
use Rattle.tree_model.specs.Files.{HeldVersion, held_version, version_of}
use Rattle.tree_model.specs.Histories.{held, history}
use Rattle.tree_laws.specs.Printed.{entries}
use Rattle.tree_laws.specs.Deltas.{AgreeBut, AnswerFact, BaseFact, DeltaFact, PullsAbove, PullsOver}
use Rattle.tree_laws.specs.Doing.{FrameFact, PullsFact, PullsFine}
use Rattle.tree_laws.specs.Following.{IsFollowed}
use Rattle.tree_laws.specs.Packets.{PageFact}
use Rattle.tree_laws.specs.Stores.{PullFact}
use Rattle.tree_laws.proofs.Orders.Standing.{same_stamp_eq}
use Rattle.tree_laws.proofs.Syncs.Members.{inside_joined}
use Rattle.store_laws.specs.Rests.{StoreRests}
use Rattle.store_laws.proofs.PulledPages.{above_at, below_at, page_front, page_next}
use Rattle.store_laws.proofs.Tabled.{file_of_key, row_found}
use Rattle.store_laws.proofs.Pulls.{goes_fine, still}

-- ---- Page ----

own_test : (a b : ℕ) → a ≡ b → (a == b) ≡ true
own_test a b e = grind (arith, nat_tests)

not_less : (a b : ℕ) → nat_lt a b ≡ false → b ≤ a
not_less a b e = grind (arith, nat_tests)

-- the pull with the page that it waits for
module _ (c : Config) (trace : List Line) (e : EpochId) (me : ℕ) (p : Pull) (stamp : Stamp) (page : ℕ) (bytes : List ℕ) (k : PullFact c trace e me p) (q : PageFact c trace p.file stamp page bytes) (awaited : is_awaited p stamp page bytes ≡ true) where
  tests : (is_some p.wanted && (not (is_complete p) && ((page == next_page p) && (length bytes == bytes_in p.size page)))) ≡ true
  tests = and_second (same_stamp p.stamp stamp) _ awaited

  named_so : is_some p.wanted ≡ true
  named_so = and_first (is_some p.wanted) _ tests

  last_tests : ((page == next_page p) && (length bytes == bytes_in p.size page)) ≡ true
  last_tests = and_second (not (is_complete p)) _ (and_second (is_some p.wanted) _ tests)

  page_is : page ≡ next_page p
  page_is = equal page (next_page p) (and_first (page == next_page p) _ last_tests)

  long : length bytes ≡ bytes_in p.size page
  long = equal (length bytes) (bytes_in p.size page) (and_second (page == next_page p) _ last_tests)

  not_all : pages_got p ≡ length (wanted_pages p) → ⊥
  not_all same = over (is_some p.wanted) named_so (and_first (not (is_complete p)) _ (and_second (is_some p.wanted) _ tests))
    where
      both : (a b : Bool) → a ≡ true → b ≡ true → not (a && b) ≡ true → ⊥
      both true true s t r = true_false (sym r)
      both true false s t r = true_false (sym t)
      both false b s t r = true_false (sym s)

      over : (b : Bool) → b ≡ true → not (b && (pages_got p == length (wanted_pages p))) ≡ true → ⊥
      over b s r = both b (pages_got p == length (wanted_pages p)) s (own_test (pages_got p) (length (wanted_pages p)) same) r

  more : pages_got p < length (wanted_pages p)
  more = below (pages_got p) (length (wanted_pages p)) k.few not_all
    where
      below : (a b : ℕ) → a ≤ b → (a ≡ b → ⊥) → a < b
      below a b le ne = over (a == b) refl
        where
          apart : (a == b) ≡ false → a < b
          apart t = grind (arith, nat_tests)

          over : (t : Bool) → (a == b) ≡ t → a < b
          over true t = absurd (ne (equal a b t))
          over false t = apart t

  whole : length p.content ≡ page_bytes * pages_got p
  whole = over k.even
    where
      over : (pages_got p ≡ length (wanted_pages p)) ⊎ (length p.content ≡ page_bytes * pages_got p) → length p.content ≡ page_bytes * pages_got p
      over (inl s) = absurd (not_all s)
      over (inr s) = s

  size_same : p.size ≡ length k.version.content
  size_same = sym k.size_is

  in_version : page < pages_of p.size
  in_version = subst (λ (m : ℕ). page < pages_of m) k.size_is (subst (λ (m : ℕ). m < pages_of (length k.version.content)) (sym page_is) (below_at (pages_of (length k.version.content)) (wanted_pages p) k.inside (pages_got p) more))

  some_bytes : (m i : ℕ) → i < pages_of m → 1 ≤ min page_bytes (m - page_bytes * i)
  some_bytes m i lt = omega (arith, lt)

  no_more : (m i : ℕ) → min page_bytes (m - page_bytes * i) ≤ page_bytes
  no_more m i = omega arith

  low : 1 ≤ length bytes
  low = subst (λ (m : ℕ). 1 ≤ m) (sym long) (some_bytes p.size page in_version)

  high : length bytes ≤ page_bytes
  high = subst (λ (m : ℕ). m ≤ page_bytes) (sym long) (no_more p.size page)

  -- then one page more has come
  one_more : pages_of (length (p.content ++ bytes)) ≡ suc (pages_got p)
  one_more = ap pages_of (length-append p.content bytes ∙ ap (λ (m : ℕ). m + length bytes) whole) ∙ up (pages_got p) (length bytes) low high
    where
      up : (g m : ℕ) → 1 ≤ m → m ≤ page_bytes → pages_of (page_bytes * g + m) ≡ suc g
      up g m a b = omega (arith, a, b)

  same_version : q.version ≡ k.version
  same_version = q.is_version.same ∙ (ap (version_of c (entries trace) p.file) (q.stamp_is ∙ (sym (same_stamp_eq p.stamp stamp (and_first (same_stamp p.stamp stamp) _ awaited)) ∙ sym k.stamp_is)) ∙ sym k.is_version.same)

  bytes_so : bytes ≡ page_of k.version.content page
  bytes_so = q.bytes_are ∙ ap (λ (y : HeldVersion). page_of y.content page) same_version

  pages_now : (i : ℕ) → i < pages_of (length (p.content ++ bytes)) → page_of (p.content ++ bytes) i ≡ page_of k.version.content (slice_index (wanted_pages p) i)
  pages_now i lt = over (nat_lt i (pages_got p)) refl
    where
      within : nat_lt i (pages_got p) ≡ true → i < pages_got p
      within t = less i (pages_got p) t

      in_front : (g : ℕ) (len : ℕ) → i < g → len ≡ page_bytes * g → page_bytes * i + page_bytes ≤ len
      in_front g len a b = omega (arith, a, b)

      up : i < suc (pages_got p)
      up = subst (λ (m : ℕ). i < m) one_more lt

      last : nat_lt i (pages_got p) ≡ false → i ≡ pages_got p
      last t = (let high : pages_got p ≤ i = not_less i (pages_got p) t in let low : i < suc (pages_got p) = up in omega (arith, high, low))

      over : (b : Bool) → nat_lt i (pages_got p) ≡ b → page_of (p.content ++ bytes) i ≡ page_of k.version.content (slice_index (wanted_pages p) i)
      over true t = page_front p.content bytes i (in_front (pages_got p) (length p.content) (within t) whole) ∙ k.pages i (within t)
      over false t = subst (λ (j : ℕ). page_of (p.content ++ bytes) j ≡ page_of k.version.content (slice_index (wanted_pages p) j)) (sym (last t))
          (page_next p.content bytes (pages_got p) whole high ∙ (bytes_so ∙ ap (page_of k.version.content) page_is))

  -- a page that isn't full is the last of the version, and so of those that are wanted
  even_now : (pages_of (length (p.content ++ bytes)) ≡ length (wanted_pages p)) ⊎ (length (p.content ++ bytes) ≡ page_bytes * pages_of (length (p.content ++ bytes)))
  even_now = over (length bytes == page_bytes) refl
    where
      full : length bytes ≡ page_bytes → length (p.content ++ bytes) ≡ page_bytes * pages_of (length (p.content ++ bytes))
      full s = length-append p.content bytes ∙ (sum (length p.content) (length bytes) (pages_got p) whole s ∙ ap (λ (m : ℕ). page_bytes * m) (sym one_more))
        where
          sum : (a b g : ℕ) → a ≡ page_bytes * g → b ≡ page_bytes → a + b ≡ page_bytes * suc g
          sum a b g s t = omega (arith, s, t)

      not_full : (length bytes == page_bytes) ≡ false → length bytes < page_bytes
      not_full t = (let le : length bytes ≤ page_bytes = high in grind (arith, nat_tests))

      last_page : (m i b : ℕ) → b ≡ min page_bytes (m - page_bytes * i) → b < page_bytes → pages_of m ≤ suc i
      last_page m i b s t = omega (arith, s, t)

      short : length bytes < page_bytes → suc (pages_got p) ≡ length (wanted_pages p)
      short lt = over (suc (pages_got p) == length (wanted_pages p)) refl
        where
          past : suc (pages_got p) < length (wanted_pages p) → ⊥
          past more_still =
              let rise : slice_index (wanted_pages p) (pages_got p) < slice_index (wanted_pages p) (suc (pages_got p)) = above_at 0 (wanted_pages p) k.rising (pages_got p) more_still in
              let inside : slice_index (wanted_pages p) (suc (pages_got p)) < pages_of (length k.version.content) = below_at (pages_of (length k.version.content)) (wanted_pages p) k.inside (suc (pages_got p)) more_still in
              let last : pages_of p.size ≤ suc page = last_page p.size page (length bytes) long lt in
              clash page (slice_index (wanted_pages p) (suc (pages_got p))) (pages_of p.size) (subst (λ (m : ℕ). m < slice_index (wanted_pages p) (suc (pages_got p))) (sym page_is) rise) (subst (λ (m : ℕ). slice_index (wanted_pages p) (suc (pages_got p)) < pages_of m) k.size_is inside) last
            where
              clash : (a b n : ℕ) → a < b → b < n → n ≤ suc a → ⊥
              clash a b n s t r = omega (arith, s, t, r)

          rest : (suc (pages_got p) == length (wanted_pages p)) ≡ false → suc (pages_got p) < length (wanted_pages p)
          rest t = (let lt : pages_got p < length (wanted_pages p) = more in grind (arith, nat_tests))

          over : (b : Bool) → (suc (pages_got p) == length (wanted_pages p)) ≡ b → suc (pages_got p) ≡ length (wanted_pages p)
          over true t = equal (suc (pages_got p)) (length (wanted_pages p)) t
          over false t = absurd (past (rest t))

      over : (b : Bool) → (length bytes == page_bytes) ≡ b → (pages_of (length (p.content ++ bytes)) ≡ length (wanted_pages p)) ⊎ (length (p.content ++ bytes) ≡ page_bytes * pages_of (length (p.content ++ bytes)))
      over true t = inr (full (equal (length bytes) page_bytes t))
      over false t = inl (one_more ∙ short (not_full t))

  paged : PullFact c trace e me (record p { content = p.content ++ bytes })
  paged = record {
    started = k.started;
    known = k.known;
    single = k.single;
    version = k.version;
    is_version = k.is_version;
    stamp_is = k.stamp_is;
    kind_is = k.kind_is;
    set_is = k.set_is;
    vector_is = k.vector_is;
    size_is = k.size_is;
    rising = k.rising;
    inside = k.inside;
    few = subst (λ (m : ℕ). m ≤ length (wanted_pages p)) (sym one_more) (omega (arith, more));
    pages = pages_now;
    even = even_now;
    based = based p.base k.based;
    over = over (held_version c (entries trace) me p.file) k.over;
    wanted = k.wanted;
    holds = k.holds;
  }
    where
      based : (base : Option Stamp) → BaseFact c trace (held_version c (entries trace) me p.file) p base → BaseFact c trace (held_version c (entries trace) me p.file) (record p { content = p.content ++ bytes }) base
      based None b = tt
      based (Some own) b = record { stands = b.stands; now = b.now; has = b.has; over = b.over }

      over : (o : Option HeldVersion) → PullsOver o p k.version → PullsOver o (record p { content = p.content ++ bytes }) k.version
      over None z = z
      over (Some own) z = z

pub page_fine : (c : Config) (n : ℕ) (trace : List Line) → IsFollowed c trace → StoreRests c trace → (f : Frame) → FrameFact c trace f → (ps : List Pull) → PullsFact c f trace ps → (file : FileId) (stamp : Stamp) (page : ℕ) (bytes : List ℕ) → PageFact c trace file stamp page bytes → PullsFine c n trace f (on_page f file stamp page bytes ps)
page_fine c n trace h rests f frame ps all file stamp page bytes q = over (pull_of ps file) refl
  where
    narrow : file.ino < inode_span
    narrow = rests.narrow file q.version.stamp q.is_version.stands

    joined : has_joined (entries trace) f.me f.epoch ≡ true
    joined = inside_joined c trace h f.me f.epoch frame.inside

    by_test : (p : Pull) → PullFact c trace f.epoch f.me p → p.file ≡ file → (b : Bool) → is_awaited p stamp page bytes ≡ b → PullsFine c n trace f (elim b [ true ↦ goes_on f (record p { content = p.content ++ bytes }) ps | false ↦ quiet ps ])
    by_test p k same true e = goes_fine c n trace f (record p { content = p.content ++ bytes }) ps joined all (paged c trace f.epoch f.me p stamp page bytes k (subst (λ (y : FileId). PageFact c trace y stamp page bytes) (sym same) q) e)
    by_test p k same false e = still c n trace f ps all

    over : (o : Option Pull) → pull_of ps file ≡ o → PullsFine c n trace f (on_page_of f stamp page bytes o ps)
    over None e = still c n trace f ps all
    over (Some p) e = (let k : PullFact c trace f.epoch f.me p × (pull_key p ≡ file_key file) = row_found pull_key (file_key file) ps p (PullFact c trace f.epoch f.me) e all in
        by_test p k.0 (file_of_key p.file file (rests.narrow p.file k.0.version.stamp k.0.is_version.stands) narrow k.1) (is_awaited p stamp page bytes) refl)

-- ---- Delta ----

every_below : (top : ℕ) (ps : List ℕ) → list_all (λ (page : ℕ). nat_lt page top) ps ≡ true → Every (λ (page : ℕ). page < top) ps
every_below top [] h = tt
every_below top (p ∷ ps) h = (low (and_first (nat_lt p top) _ h), every_below top ps (and_second (nat_lt p top) _ h))
  where
    low : nat_lt p top ≡ true → p < top
    low t = grind (arith, nat_tests)

-- the pull with the pages that are to be pulled
module _ (c : Config) (trace : List Line) (e : EpochId) (me : ℕ) (ps : List Pull) (p : Pull) (own : ℕ) (stamp : Stamp) (pages : List ℕ) (k : PullFact c trace e me p) (q : DeltaFact c trace me ps p.file stamp pages) (taken : is_delta own p stamp pages ≡ true) where
  same_stamps : p.stamp ≡ stamp
  same_stamps = same_stamp_eq p.stamp stamp (and_first (same_stamp p.stamp stamp) _ taken)

  rest_tests : (not (is_some p.wanted) && are_delta own (pages_of p.size) pages) ≡ true
  rest_tests = and_second (same_stamp p.stamp stamp) _ taken

  unwanted : p.wanted ≡ None
  unwanted = over p.wanted (and_first (not (is_some p.wanted)) _ rest_tests)
    where
      over : (o : Option (List ℕ)) → not (is_some o) ≡ true → o ≡ None
      over None t = refl
      over (Some xs) t = absurd (true_false (sym t))

  delta_tests : are_delta own (pages_of p.size) pages ≡ true
  delta_tests = and_second (not (is_some p.wanted)) _ rest_tests

  nothing : pages_got p ≤ 0
  nothing = subst (λ (o : Option (List ℕ)). pages_got p ≤ length (wanted_pages (record p { wanted = o }))) unwanted k.few

  vector_is : p.vector ≡ vector_of (history c (entries trace)) p.file stamp
  vector_is = sym k.vector_is ∙ (ap (λ (y : HeldVersion). y.vector) k.is_version.same ∙ ap (vector_of (history c (entries trace)) p.file) (k.stamp_is ∙ same_stamps))

  content_is : k.version.content ≡ content_of (history c (entries trace)) p.file stamp
  content_is = ap (λ (y : HeldVersion). y.content) k.is_version.same ∙ ap (content_of (history c (entries trace)) p.file) (k.stamp_is ∙ same_stamps)

  abbrev with_pages : Pull
  with_pages = record p { wanted = Some pages }

  over_now : (o : Option HeldVersion) → ((now : HeldVersion) → o ≡ Some now → now ≡ version_of c (entries trace) p.file now.stamp) → held_version c (entries trace) me p.file ≡ o → PullsOver o p k.version → PullsOver o with_pages k.version
  over_now None is at z = λ b. absurd (none_some (pages_from 0 (pages_of (length k.version.content))) (sym unwanted ∙ z b))
  over_now (Some now) is at z = λ b below. inr (agree b below q.asked.over)
    where
      found : q.asked.now ≡ now
      found = some_same q.asked.now now (sym q.asked.held ∙ at)

      agree : p.base ≡ Some now.stamp → is_below now.vector p.vector ≡ true →
          ((q.asked.now.stamp ≡ q.own) × ((r : Pull) × (pull_of ps p.file ≡ Some r) × PullsAbove c trace p.file stamp q.own r)) ⊎ (is_below q.asked.now.vector (vector_of (history c (entries trace)) p.file stamp) ≡ false) → AgreeBut now.content k.version.content pages
      agree b below (inl at_own) = subst (λ (xs : List ℕ). AgreeBut xs k.version.content pages) (sym (ap (λ (y : HeldVersion). y.content) (is now refl) ∙ ap (content_of (history c (entries trace)) p.file) (sym (ap (λ (y : HeldVersion). y.stamp) found) ∙ at_own.0)))
          (subst (λ (xs : List ℕ). AgreeBut (content_of (history c (entries trace)) p.file q.own) xs pages) (sym content_is) q.differ.agree)
      agree b below (inr apart) = absurd (true_false (sym below ∙ (ap (is_below now.vector) vector_is ∙ (ap (λ (y : HeldVersion). is_below y.vector (vector_of (history c (entries trace)) p.file stamp)) (sym found) ∙ apart))))

  wanted_now : PullFact c trace e me with_pages
  wanted_now = record {
    started = k.started;
    known = k.known;
    single = k.single;
    version = k.version;
    is_version = k.is_version;
    stamp_is = k.stamp_is;
    kind_is = k.kind_is;
    set_is = k.set_is;
    vector_is = k.vector_is;
    size_is = k.size_is;
    rising = and_first (ascend_from 0 pages) _ delta_tests;
    inside = subst (λ (m : ℕ). Every (λ (page : ℕ). page < pages_of m) pages) (sym k.size_is) (every_below (pages_of p.size) pages (and_first (list_all (λ (page : ℕ). nat_lt page (pages_of p.size)) pages) _ (and_second (ascend_from 0 pages) _ delta_tests)));
    few = (let none : pages_got p ≤ 0 = nothing in omega (arith, none));
    pages = λ i lt. absurd (clash i (pages_got p) lt nothing);
    even = inr (empty (length p.content) nothing);
    based = based p.base k.based;
    over = over_now (held_version c (entries trace) me p.file) held_is refl k.over;
    wanted = k.wanted;
    holds = k.holds;
  }
    where
      clash : (i m : ℕ) → i < m → m ≤ 0 → ⊥
      clash i m s t = omega (arith, s, t)

      empty : (m : ℕ) → pages_of m ≤ 0 → m ≡ page_bytes * pages_of m
      empty m s = omega (arith, s)

      based : (base : Option Stamp) → BaseFact c trace (held_version c (entries trace) me p.file) p base → BaseFact c trace (held_version c (entries trace) me p.file) with_pages base
      based None b = tt
      based (Some own) b = record { stands = b.stands; now = b.now; has = b.has; over = b.over }

      held_is : (now : HeldVersion) → held_version c (entries trace) me p.file ≡ Some now → now ≡ version_of c (entries trace) p.file now.stamp
      held_is now at = it (held c (entries trace) me p.file) at
        where
          it : (o : Option Stamp) → option_map (version_of c (entries trace) p.file) o ≡ Some now → now ≡ version_of c (entries trace) p.file now.stamp
          it None z = absurd (none_some now z)
          it (Some s) z = (let same : version_of c (entries trace) p.file s ≡ now = some_same (version_of c (entries trace) p.file s) now z in sym same ∙ ap (version_of c (entries trace) p.file) (ap (λ (y : HeldVersion). y.stamp) same))

pub delta_fine : (c : Config) (n : ℕ) (trace : List Line) → IsFollowed c trace → StoreRests c trace → (f : Frame) → FrameFact c trace f → (ps : List Pull) → PullsFact c f trace ps → (own : Option FileCopy) (file : FileId) (stamp : Stamp) (pages : List ℕ) → AnswerFact c trace f.epoch f.me file stamp → DeltaFact c trace f.me ps file stamp pages → PullsFine c n trace f (on_delta f own file stamp pages ps)
delta_fine c n trace h rests f frame ps all own file stamp pages a q = over (pull_of ps file) refl
  where
    narrow : file.ino < inode_span
    narrow = rests.narrow file stamp a.wanted_stands

    joined : has_joined (entries trace) f.me f.epoch ≡ true
    joined = inside_joined c trace h f.me f.epoch frame.inside

    by_test : (p : Pull) → PullFact c trace f.epoch f.me p → p.file ≡ file → (b : Bool) → is_delta (pages_in own) p stamp pages ≡ b → PullsFine c n trace f (elim b [ true ↦ goes_on f (record p { wanted = Some pages }) ps | false ↦ quiet ps ])
    by_test p k same true e = goes_fine c n trace f (record p { wanted = Some pages }) ps joined all (wanted_now c trace f.epoch f.me ps p (pages_in own) stamp pages k (subst (λ (y : FileId). DeltaFact c trace f.me ps y stamp pages) (sym same) q) e)
    by_test p k same false e = still c n trace f ps all

    over : (o : Option Pull) → pull_of ps file ≡ o → PullsFine c n trace f (on_delta_of f (pages_in own) stamp pages o ps)
    over None e = still c n trace f ps all
    over (Some p) e = (let k : PullFact c trace f.epoch f.me p × (pull_key p ≡ file_key file) = row_found pull_key (file_key file) ps p (PullFact c trace f.epoch f.me) e all in
        by_test p k.0 (file_of_key p.file file (rests.narrow p.file k.0.version.stamp k.0.is_version.stands) narrow k.1) (is_delta (pages_in own) p stamp pages) refl)
