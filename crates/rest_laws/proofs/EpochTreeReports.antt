-- What a site reports of a pack is what it has in the epoch.
use Rattle.std.proofs.Common.{◌≡◌, ℕ, ◌==◌, ◌<◌, Bool, true, false, cond, List, [], ◌∷◌, Option, Some, None, refl, sym, ◌∙◌, ap, subst, arith, inl, inr}
use Rattle.std.specs.List.{AllByRecursion}
use Rattle.std.specs.Option.{option_map}
use Rattle.role_steps.proofs.of_plain_facts.Numbers.{equal, equal_self}
use Rattle.role_steps.proofs.of_plain_facts.Options.{none_some, some_same}
use Rattle.role_steps.proofs.of_plain_facts.Tests.{true_false}
use Rattle.locus_ids.specs.declared.config.Config.{Config}
use Rattle.locus_ids.specs.declared.ids.FileId.{FileId}
use Rattle.locus_ids.specs.declared.ids.Stamp.{Stamp}
use Rattle.locus_ids.specs.Sizes.{inode_span}
use Rattle.wire_messages.specs.declared.body.Body.TheVariants as body
use Rattle.wire_messages.specs.declared.body.ReportedCopy.{ReportedCopy}
use Rattle.role_steps.specs.Epochs.{all_reports, report_packets}
use Rattle.role_steps.specs.Own.{Every}
use Rattle.role_steps.specs.Storage.{copy_key, copy_of, reported, report_of}
use Rattle.role_steps.specs.Tables.{row}
use Rattle.role_steps.specs.Views.{Frame, Store, SiteView, sync_site, to_some}
use Rattle.role_steps.specs.declared.copies.FileCopy.{FileCopy}
use Rattle.the_run.specs.Kept.{Among}
use Rattle.the_run.specs.Worlds.{Line}
use Rattle.tree_model.specs.Files.{version_of}
use Rattle.tree_model.specs.Histories.{held}
use Rattle.tree_model.specs.Packs.{has_pack}
use Rattle.tree_laws.specs.Doing.{FrameFact}
use Rattle.tree_laws.specs.Instances.{held_in}
use Rattle.tree_laws.specs.Packets.{PacketFact, ReportedNow, ReportsNow, file_in}
use Rattle.tree_laws.specs.Printed.{entries}
use Rattle.tree_laws.specs.Stores.{Ascends, CopiesAreHeld, copy_for}
use Rattle.tree_laws.proofs.Rows.{followed_rows}
use Rattle.store_laws.specs.Holdings.Below.{LawsBelow}
use Rattle.store_laws.specs.Holdings.Held.{SitesHold}
use Rattle.store_laws.proofs.Holdings.Below.{packs_hold}
use Rattle.store_laws.proofs.Holdings.Copies.{epoch_joined}
use Rattle.store_laws.proofs.Holdings.Holding.{sites_hold}
use Rattle.store_laws.proofs.Holdings.Made.{held_stand}
use Rattle.store_laws.proofs.Holdings.RoomStoreCopies.{copies_narrow}
use Rattle.store_laws.proofs.Tabled.{row_among}
use Rattle.store_laws.specs.OneTree.Rest.{Past}
use Rattle.store_laws.proofs.OneTree.Repeats.{every_flat}
use Rattle.store_laws.proofs.OneTree.Staying.{rest_below}
use Rattle.rest_laws.proofs.EpochTreeNarrow.{stands_narrow}

-- ---- each copy is found under its key ----

row_next : (k : ℕ) (x : FileCopy) (xs : List FileCopy) (b : Bool) → (copy_key x == k) ≡ b → row copy_key k (x ∷ xs) ≡ cond b (Some x) (row copy_key k xs)
row_next k x xs b e = subst (λ (a : Bool). row copy_key k (x ∷ xs) ≡ cond a (Some x) (row copy_key k xs)) e (at (copy_key x == k))
  where
    at : (a : Bool) → (elim a as (λ (y : Bool). Option FileCopy) [ true ↦ Some x | false ↦ row copy_key k xs ]) ≡ cond a (Some x) (row copy_key k xs)
    at true = refl
    at false = refl

abbrev pub IsFound : List FileCopy → FileCopy → Type 0
IsFound xs x = row copy_key (copy_key x) xs ≡ Some x

pub each_found : (xs : List FileCopy) → Ascends copy_key xs → AllByRecursion (IsFound xs) xs
each_found [] k = tt
each_found (y ∷ ys) k = (row_next (copy_key y) y ys true (equal_self (copy_key y)), later ys k.0 (each_found ys k.1))
  where
    above : (a b : ℕ) → a < b → (x : Bool) → (a == b) ≡ x → x ≡ false
    above a b p false e = refl
    above a b p true e = (let q : a ≡ b = equal a b e in absurd (omega (arith, p, q)))

    later : (zs : List FileCopy) → Every (λ (z : FileCopy). copy_key y < copy_key z) zs → AllByRecursion (IsFound ys) zs → AllByRecursion (IsFound (y ∷ ys)) zs
    later [] p q = tt
    later (z ∷ zs) p q = (row_next (copy_key z) y ys false (above (copy_key y) (copy_key z) p.0 (copy_key y == copy_key z) refl) ∙ q.0, later zs p.1 q.1)

-- ---- the report of a group ----

-- each copy of the group is reported
reported_among : (g : ℕ) (x : FileCopy) (xs : List FileCopy) → Among x xs → x.file.group ≡ g → Among (reported x) (report_of g xs)
reported_among g x [] a p = absurd a
reported_among g x (y ∷ ys) (inl e) p = at (y.file.group == g) refl
  where
    at : (b : Bool) → (y.file.group == g) ≡ b → Among (reported x) (cond b (reported y ∷ report_of g ys) (report_of g ys))
    at true q = inl (ap reported e)
    at false q = absurd (true_false (sym (subst (λ (n : ℕ). (n == g) ≡ true) (sym p ∙ ap (λ (z : FileCopy). z.file.group) e) (equal_self g)) ∙ q))
reported_among g x (y ∷ ys) (inr a) p = at (y.file.group == g) (reported_among g x ys a p)
  where
    at : (b : Bool) → Among (reported x) (report_of g ys) → Among (reported x) (cond b (reported y ∷ report_of g ys) (report_of g ys))
    at true later = inr later
    at false later = later

module _ (c : Config) (trace : List Line) (f : Frame) (s : Store) (past : Past c trace) (frame : FrameFact c trace f) (copies : CopiesAreHeld c trace f.me s) where
  laws : LawsBelow c trace
  laws = rest_below c trace past.rest

  sites : SitesHold c (entries trace)
  sites = sites_hold c (entries trace) (packs_hold c trace laws.packed)

  abbrev Tells : ℕ → ReportedCopy → Type 0
  Tells g x = ReportedNow c trace f.epoch f.me g x

  -- a copy on the disk is what the site has
  copy_told : (x : FileCopy) → IsFound s.copies x → x.file.ino < inode_span → Tells x.file.group (reported x)
  copy_told x found small = over (held c (entries trace) f.me x.file) refl (copies.are x.file small)
    where
      over : (o : Option Stamp) → held c (entries trace) f.me x.file ≡ o → copy_of s x.file ≡ option_map (copy_for x.file) (option_map (version_of c (entries trace) x.file) o) → Tells x.file.group (reported x)
      over None e k = absurd (none_some x (sym k ∙ found))
      over (Some stamp) e k = record {
        version = version_of c (entries trace) x.file stamp;
        is_version = record { stands = held_stand c (entries trace) (followed_rows c trace past.followed) f.epoch x.file f.me stamp now; same = refl };
        held = now;
        same = ap reported (sym (some_same (copy_for x.file (version_of c (entries trace) x.file stamp)) x (sym k ∙ found)));
      }
        where
          now : held_in c (entries trace) f.epoch f.me x.file ≡ Some stamp
          now = sites.now f.epoch f.me x.file frame.inside ∙ e

  copies_told : (g : ℕ) (xs : List FileCopy) → AllByRecursion (IsFound s.copies) xs → AllByRecursion (λ (x : FileCopy). x.file.ino < inode_span) xs → Every (Tells g) (report_of g xs)
  copies_told g [] a b = tt
  copies_told g (x ∷ xs) a b = at (x.file.group == g) refl (copies_told g xs a.1 b.1)
    where
      at : (t : Bool) → (x.file.group == g) ≡ t → Every (Tells g) (report_of g xs) → Every (Tells g) (cond t (reported x ∷ report_of g xs) (report_of g xs))
      at true e later = (subst (λ (n : ℕ). Tells n (reported x)) (equal x.file.group g e) (copy_told x a.0 b.0), later)
      at false e later = later

  -- what the site has is on its disk
  all_told : (g ino : ℕ) (stamp : Stamp) → held_in c (entries trace) f.epoch f.me (file_in g ino) ≡ Some stamp → (x : ReportedCopy) × Among x (report_of g s.copies) × (x.ino ≡ ino)
  all_told g ino stamp k = (reported it, reported_among g it s.copies there refl, refl)
    where
      file : FileId
      file = file_in g ino

      it : FileCopy
      it = copy_for (file_in g ino) (version_of c (entries trace) (file_in g ino) stamp)

      small : ino < inode_span
      small = stands_narrow c (file_in g ino) stamp trace past.rest.each (held_stand c (entries trace) (followed_rows c trace past.followed) f.epoch (file_in g ino) f.me stamp k)

      holds : held c (entries trace) f.me (file_in g ino) ≡ Some stamp
      holds = sym (sites.now f.epoch f.me (file_in g ino) frame.inside) ∙ k

      there : Among (copy_for (file_in g ino) (version_of c (entries trace) (file_in g ino) stamp)) s.copies
      there = row_among copy_key _ s.copies (copy_for (file_in g ino) (version_of c (entries trace) (file_in g ino) stamp))
          (copies.are (file_in g ino) small ∙ ap (λ (o : Option Stamp). option_map (copy_for (file_in g ino)) (option_map (version_of c (entries trace) (file_in g ino)) o)) holds)

  pub reports_now : (g : ℕ) → ReportsNow c trace f.epoch f.me g (report_of g s.copies)
  reports_now g = record {
    joined = epoch_joined (entries trace) f.me f.epoch frame.inside;
    each = copies_told g s.copies (each_found s.copies copies.ascends) (copies_narrow c trace f.me s copies);
    all = all_told g;
  }

-- ---- the packets ----

pub reports_sent : (c : Config) (trace : List Line) (f : Frame) (v : SiteView) → Past c trace → FrameFact c trace f → CopiesAreHeld c trace f.me v.store → Every (λ (g : ℕ). has_pack c g f.me ≡ true) v.reports → Every (PacketFact c trace) (all_reports f v)
reports_sent c trace f v past frame copies packs = every_flat (PacketFact c trace) (report_packets f v) v.reports (sent v.reports packs)
  where
    to : (g : ℕ) → has_pack c g f.me ≡ true → (o : Option ℕ) → Every (PacketFact c trace) (to_some f (body.Report g (report_of g v.store.copies)) o)
    to g pack None = tt
    to g pack (Some s) = ((record { joined = epoch_joined (entries trace) f.me f.epoch frame.inside; packed = pack }, inr (reports_now c trace f v.store past frame copies g)), tt)

    sent : (gs : List ℕ) → Every (λ (g : ℕ). has_pack c g f.me ≡ true) gs → Every (λ (g : ℕ). Every (PacketFact c trace) (report_packets f v g)) gs
    sent [] k = tt
    sent (g ∷ gs) k = (to g k.0 (sync_site f.config f.members g), sent gs k.1)
