-- Sites boot, stop, leave and join: what the list of sites says stays what the folds say.
use Rattle.std.proofs.Common.{◌≡◌, ℕ, ◌==◌, ◌||◌, ◌&&◌, not, Bool, true, false, cond, List, [], ◌∷◌, filter, Option, Some, None, refl, sym, ap, subst, ◌∙◌}
use Rattle.std.specs.Option.{option_map}
use Rattle.locus_ids.specs.declared.config.Config.{Config}
use Rattle.locus_ids.specs.declared.sites.Members.{Members}
use Rattle.locus_ids.specs.declared.ids.EpochId.{EpochId}
use Rattle.locus_ids.specs.declared.ids.FileId.{FileId}
use Rattle.locus_ids.specs.declared.ids.Stamp.{Stamp}
use Rattle.commit_graph.specs.Versions.{same_file}
use Rattle.trace_book.specs.declared.entry.Entry.{Entry}
use Rattle.trace_book.specs.declared.record.Record.{Record}
use Rattle.trace_book.specs.declared.record.Record.TheVariants.{Up, Stopped, Leave, Join, Commit, Adopt}
use Rattle.trace_book.specs.declared.record.StopCause.{StopCause}
use Rattle.tree_model.specs.Epochs.{is_up, boot_of, epoch_of, last_joined, calls_accepted}
use Rattle.tree_model.specs.Folds.{Trace}
use Rattle.tree_model.specs.Histories.{held as held_by}
use Rattle.promises.specs.of_lawful_trace.Tables.{descriptor}
use Rattle.promises.specs.Past.{Site, Copy, stamp_in}
use Rattle.promises.specs.After.{change}
use Rattle.past_laws.proofs.Names.{number_eq, false_true, file_eq, file_test}
use Rattle.past_laws.proofs.Changing.{find_filtered}
use Rattle.past_laws.proofs.SitesSay.{SitesSay, has_number, is_there_in, table_in, same_there, part_step, part_still, numbers_still, or_choice, not_choice, chosen_none, chosen_old}

abbrev pub entry : ℕ → Record → Entry
entry line what = record { line = line; what = what }

-- A boot.

abbrev pub booted : ℕ → Site → Site
booted boot x = record x { up = true; boot = boot; joined = None; accepted = 0 }

pub sites_up : (c : Config) (line s boot : ℕ) (before : Trace) (sites : List Site) → SitesSay c before sites → is_there_in sites s ≡ true → is_up c before s ≡ false
    → SitesSay c (entry line (Up s boot) ∷ before) (change (has_number s) (booted boot) sites)
sites_up c line s boot before sites say there stopped = record {
  numbers = numbers_still s (booted boot) (λ x. refl) sites ∙ say.numbers;
  up = λ z h. part_step (λ (x : Site). x.up) (λ b. true) s z (booted boot) (λ x. refl) (λ x. refl) sites there (is_up c before z) (say.up z (was z h)) ∙ or_choice (s == z) (is_up c before z);
  boot = λ z h. part_step (λ (x : Site). x.boot) (λ n. boot) s z (booted boot) (λ x. refl) (λ x. refl) sites there (boot_of before z) (say.boot z (was z h));
  epoch = λ z. part_still (λ (x : Site). x.epoch) s z (booted boot) (λ x. refl) (λ x. refl) sites ∙ (say.epoch z ∙ chosen_old (s == z) None (epoch_of before z) (λ e. subst (λ n. epoch_of before n ≡ None) (number_eq s z e) (say.down s stopped)));
  joined = λ z. part_step (λ (x : Site). x.joined) (λ o. None) s z (booted boot) (λ x. refl) (λ x. refl) sites there (last_joined before z) (say.joined z);
  accepted = λ z. part_step (λ (x : Site). x.accepted) (λ n. 0) s z (booted boot) (λ x. refl) (λ x. refl) sites there (calls_accepted before z) (say.accepted z);
  held = λ z h f. part_still (λ (x : Site). stamp_in x.held f) s z (booted boot) (λ x. refl) (λ x. refl) sites ∙ say.held z (was z h) f;
  table = λ z process fd. part_still (λ (x : Site). table_in x process fd) s z (booted boot) (λ x. refl) (λ x. refl) sites ∙ say.table z process fd;
  down = λ z h. chosen_none (s == z) (epoch_of before z) (say.down z (other (s == z) (is_up c before z) h));
}
  where
    was : (z : ℕ) → is_there_in (change (has_number s) (booted boot) sites) z ≡ true → is_there_in sites z ≡ true
    was z h = sym (same_there s z (booted boot) (λ x. refl) sites) ∙ h

    other : (a b : Bool) → (a || b) ≡ false → b ≡ false
    other true b h = false_true (sym h)
    other false b h = h

-- A stop.

abbrev pub halted : Site → Site
halted x = record x { epoch = None; up = false; descriptors = [] }

pub sites_stopped : (c : Config) (line s : ℕ) (why : StopCause) (before : Trace) (sites : List Site) → SitesSay c before sites → is_there_in sites s ≡ true
    → SitesSay c (entry line (Stopped s why) ∷ before) (change (has_number s) halted sites)
sites_stopped c line s why before sites say there = record {
  numbers = numbers_still s halted (λ x. refl) sites ∙ say.numbers;
  up = λ z h. part_step (λ (x : Site). x.up) (λ b. false) s z halted (λ x. refl) (λ x. refl) sites there (is_up c before z) (say.up z (was z h)) ∙ not_choice (s == z) (is_up c before z);
  boot = λ z h. part_still (λ (x : Site). x.boot) s z halted (λ x. refl) (λ x. refl) sites ∙ say.boot z (was z h);
  epoch = λ z. part_step (λ (x : Site). x.epoch) (λ o. None) s z halted (λ x. refl) (λ x. refl) sites there (epoch_of before z) (say.epoch z);
  joined = λ z. part_still (λ (x : Site). x.joined) s z halted (λ x. refl) (λ x. refl) sites ∙ say.joined z;
  accepted = λ z. part_still (λ (x : Site). x.accepted) s z halted (λ x. refl) (λ x. refl) sites ∙ say.accepted z;
  held = λ z h f. part_still (λ (x : Site). stamp_in x.held f) s z halted (λ x. refl) (λ x. refl) sites ∙ say.held z (was z h) f;
  table = λ z process fd. part_step (λ (x : Site). table_in x process fd) (λ o. None) s z halted (λ x. refl) (λ x. refl) sites there (descriptor before z process fd) (say.table z process fd);
  down = λ z h. by (s == z) (is_up c before z) (epoch_of before z) (say.down z) h;
}
  where
    was : (z : ℕ) → is_there_in (change (has_number s) halted sites) z ≡ true → is_there_in sites z ≡ true
    was z h = sym (same_there s z halted (λ x. refl) sites) ∙ h

    by : (b up : Bool) (old : Option EpochId) → (up ≡ false → old ≡ None) → (not b && up) ≡ false → cond b None old ≡ None
    by true up old f h = refl
    by false up old f h = f h

-- A leave.

abbrev pub outside : Site → Site
outside x = record x { epoch = None }

pub sites_left : (c : Config) (line s : ℕ) (e : EpochId) (before : Trace) (sites : List Site) → SitesSay c before sites → is_there_in sites s ≡ true
    → SitesSay c (entry line (Leave s e) ∷ before) (change (has_number s) outside sites)
sites_left c line s e before sites say there = record {
  numbers = numbers_still s outside (λ x. refl) sites ∙ say.numbers;
  up = λ z h. part_still (λ (x : Site). x.up) s z outside (λ x. refl) (λ x. refl) sites ∙ say.up z (was z h);
  boot = λ z h. part_still (λ (x : Site). x.boot) s z outside (λ x. refl) (λ x. refl) sites ∙ say.boot z (was z h);
  epoch = λ z. part_step (λ (x : Site). x.epoch) (λ o. None) s z outside (λ x. refl) (λ x. refl) sites there (epoch_of before z) (say.epoch z);
  joined = λ z. part_still (λ (x : Site). x.joined) s z outside (λ x. refl) (λ x. refl) sites ∙ say.joined z;
  accepted = λ z. part_still (λ (x : Site). x.accepted) s z outside (λ x. refl) (λ x. refl) sites ∙ say.accepted z;
  held = λ z h f. part_still (λ (x : Site). stamp_in x.held f) s z outside (λ x. refl) (λ x. refl) sites ∙ say.held z (was z h) f;
  table = λ z process fd. part_still (λ (x : Site). table_in x process fd) s z outside (λ x. refl) (λ x. refl) sites ∙ say.table z process fd;
  down = λ z h. chosen_none (s == z) (epoch_of before z) (say.down z h);
}
  where
    was : (z : ℕ) → is_there_in (change (has_number s) outside sites) z ≡ true → is_there_in sites z ≡ true
    was z h = sym (same_there s z outside (λ x. refl) sites) ∙ h

-- A join.

abbrev pub within : EpochId → Site → Site
within e x = record x { epoch = Some e; joined = Some e }

pub sites_joined : (c : Config) (line s : ℕ) (e : EpochId) (members : Members) (before : Trace) (sites : List Site) → SitesSay c before sites → is_there_in sites s ≡ true → is_up c before s ≡ true
    → SitesSay c (entry line (Join s e members) ∷ before) (change (has_number s) (within e) sites)
sites_joined c line s e members before sites say there running = record {
  numbers = numbers_still s (within e) (λ x. refl) sites ∙ say.numbers;
  up = λ z h. part_still (λ (x : Site). x.up) s z (within e) (λ x. refl) (λ x. refl) sites ∙ say.up z (was z h);
  boot = λ z h. part_still (λ (x : Site). x.boot) s z (within e) (λ x. refl) (λ x. refl) sites ∙ say.boot z (was z h);
  epoch = λ z. part_step (λ (x : Site). x.epoch) (λ o. Some e) s z (within e) (λ x. refl) (λ x. refl) sites there (epoch_of before z) (say.epoch z);
  joined = λ z. part_step (λ (x : Site). x.joined) (λ o. Some e) s z (within e) (λ x. refl) (λ x. refl) sites there (last_joined before z) (say.joined z);
  accepted = λ z. part_still (λ (x : Site). x.accepted) s z (within e) (λ x. refl) (λ x. refl) sites ∙ say.accepted z;
  held = λ z h f. part_still (λ (x : Site). stamp_in x.held f) s z (within e) (λ x. refl) (λ x. refl) sites ∙ say.held z (was z h) f;
  table = λ z process fd. part_still (λ (x : Site). table_in x process fd) s z (within e) (λ x. refl) (λ x. refl) sites ∙ say.table z process fd;
  down = λ z h. sym (chosen_old (s == z) (Some e) (epoch_of before z) (λ k. false_true (sym h ∙ subst (λ n. is_up c before n ≡ true) (number_eq s z k) running))) ∙ say.down z h;
}
  where
    was : (z : ℕ) → is_there_in (change (has_number s) (within e) sites) z ≡ true → is_there_in sites z ≡ true
    was z h = sym (same_there s z (within e) (λ x. refl) sites) ∙ h

-- A version comes to a site.

abbrev pub having : Copy → Site → Site
having new x = record x { held = new ∷ filter (λ (v : Copy). not (same_file v.file new.file)) x.held }

-- what it has of a file then
pub has_stamp : (new : Copy) (x : Site) (f : FileId) → stamp_in (having new x).held f ≡ cond (same_file new.file f) (Some new.stamp) (stamp_in x.held f)
has_stamp new x f = at (same_file new.file f) refl
  where
    differs : same_file new.file f ≡ false → (v : Copy) → same_file v.file f ≡ true → not (same_file v.file new.file) ≡ true
    differs h v e = by (same_file v.file new.file) refl
      where
        by : (b : Bool) → same_file v.file new.file ≡ b → not b ≡ true
        by true k = false_true (sym h ∙ file_test new.file f (sym (file_eq v.file new.file k) ∙ file_eq v.file f e))
        by false k = refl

    at : (b : Bool) → same_file new.file f ≡ b → stamp_in (having new x).held f ≡ cond b (Some new.stamp) (stamp_in x.held f)
    at true h = rw h refl
    at false h = rw h (ap (option_map (λ (v : Copy). v.stamp)) (find_filtered (λ (v : Copy). same_file v.file f) (λ (v : Copy). not (same_file v.file new.file)) (differs h) x.held))

and_choice : {Y : Type 0} (a b : Bool) (new old : Y) → cond b (cond a new old) old ≡ cond (a && b) new old
and_choice true b new old = refl
and_choice false true new old = refl
and_choice false false new old = refl

pub sites_had : (c : Config) (r : Entry) (s : ℕ) (new : Copy) (before : Trace) (sites : List Site)
    → ((z : ℕ) → is_up c (r ∷ before) z ≡ is_up c before z) → ((z : ℕ) → boot_of (r ∷ before) z ≡ boot_of before z)
    → ((z : ℕ) → epoch_of (r ∷ before) z ≡ epoch_of before z) → ((z : ℕ) → last_joined (r ∷ before) z ≡ last_joined before z)
    → ((z : ℕ) → calls_accepted (r ∷ before) z ≡ calls_accepted before z)
    → ((z : ℕ) (f : FileId) → held_by c (r ∷ before) z f ≡ cond (same_file new.file f && (s == z)) (Some new.stamp) (held_by c before z f))
    → ((z process fd : ℕ) → descriptor (r ∷ before) z process fd ≡ descriptor before z process fd)
    → SitesSay c before sites → is_there_in sites s ≡ true
    → SitesSay c (r ∷ before) (change (has_number s) (having new) sites)
sites_had c r s new before sites up boot epoch joined accepted held table say there = record {
  numbers = numbers_still s (having new) (λ x. refl) sites ∙ say.numbers;
  up = λ z h. part_still (λ (x : Site). x.up) s z (having new) (λ x. refl) (λ x. refl) sites ∙ (say.up z (was z h) ∙ sym (up z));
  boot = λ z h. part_still (λ (x : Site). x.boot) s z (having new) (λ x. refl) (λ x. refl) sites ∙ (say.boot z (was z h) ∙ sym (boot z));
  epoch = λ z. part_still (λ (x : Site). x.epoch) s z (having new) (λ x. refl) (λ x. refl) sites ∙ (say.epoch z ∙ sym (epoch z));
  joined = λ z. part_still (λ (x : Site). x.joined) s z (having new) (λ x. refl) (λ x. refl) sites ∙ (say.joined z ∙ sym (joined z));
  accepted = λ z. part_still (λ (x : Site). x.accepted) s z (having new) (λ x. refl) (λ x. refl) sites ∙ (say.accepted z ∙ sym (accepted z));
  held = λ z h f. part_step (λ (x : Site). stamp_in x.held f) (λ old. cond (same_file new.file f) (Some new.stamp) old) s z (having new) (λ x. refl) (λ x. has_stamp new x f) sites there (held_by c before z f) (say.held z (was z h) f)
      ∙ (and_choice (same_file new.file f) (s == z) (Some new.stamp) (held_by c before z f) ∙ sym (held z f));
  table = λ z process fd. part_still (λ (x : Site). table_in x process fd) s z (having new) (λ x. refl) (λ x. refl) sites ∙ (say.table z process fd ∙ sym (table z process fd));
  down = λ z h. epoch z ∙ say.down z (sym (up z) ∙ h);
}
  where
    was : (z : ℕ) → is_there_in (change (has_number s) (having new) sites) z ≡ true → is_there_in sites z ≡ true
    was z h = sym (same_there s z (having new) (λ x. refl) sites) ∙ h

pub sites_committed : (c : Config) (line : ℕ) (f : FileId) (s : ℕ) (stamp : Stamp) (parents : List Stamp) (content : List ℕ) (before : Trace) (sites : List Site) → SitesSay c before sites → is_there_in sites s ≡ true
    → SitesSay c (entry line (Commit f s stamp parents content) ∷ before) (change (has_number s) (having (record { file = f; stamp = stamp })) sites)
sites_committed c line f s stamp parents content before sites say there = sites_had c (entry line (Commit f s stamp parents content)) s (record { file = f; stamp = stamp }) before sites (λ z. refl) (λ z. refl) (λ z. refl) (λ z. refl) (λ z. refl) (λ z g. refl) (λ z process fd. refl) say there

pub sites_adopted : (c : Config) (line : ℕ) (f : FileId) (s : ℕ) (stamp : Stamp) (before : Trace) (sites : List Site) → SitesSay c before sites → is_there_in sites s ≡ true
    → SitesSay c (entry line (Adopt f s stamp) ∷ before) (change (has_number s) (having (record { file = f; stamp = stamp })) sites)
sites_adopted c line f s stamp before sites say there = sites_had c (entry line (Adopt f s stamp)) s (record { file = f; stamp = stamp }) before sites (λ z. refl) (λ z. refl) (λ z. refl) (λ z. refl) (λ z. refl) (λ z g. refl) (λ z process fd. refl) say there
