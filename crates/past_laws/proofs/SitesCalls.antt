-- Calls are accepted and answered: the descriptors of sites stay what the folds say; and records that tell nothing of a site.
use Rattle.std.proofs.Common.{◌≡◌, ℕ, ◌+◌, ◌==◌, ◌&&◌, not, Bool, true, false, cond, List, [], ◌∷◌, ◌++◌, filter, Option, Some, None, refl, sym, ap, subst, ◌∙◌}
use Rattle.std.specs.List.{find}
use Rattle.std.specs.Option.{option_map}
use Rattle.locus_ids.specs.declared.config.Config.{Config}
use Rattle.locus_ids.specs.declared.ids.CallId.{CallId}
use Rattle.trace_book.specs.declared.call.Call.{Call}
use Rattle.trace_book.specs.declared.call.Call.TheVariants as call
use Rattle.trace_book.specs.declared.descriptor.Descriptor.{Descriptor}
use Rattle.trace_book.specs.declared.descriptor.OneVersion.{OneVersion}
use Rattle.trace_book.specs.declared.reply.Reply.{Reply}
use Rattle.trace_book.specs.declared.reply.Reply.TheVariants as reply
use Rattle.trace_book.specs.declared.record.Record.{Record}
use Rattle.trace_book.specs.declared.record.Record.TheVariants.{Up, Stopped, Leave, Join, Accept, Commit, Adopt, Answer}
use Rattle.tree_model.specs.declared.accepted.Waiting.{Waiting}
use Rattle.tree_model.specs.Calls.{call_named, opening_of, version_of}
use Rattle.tree_model.specs.Epochs.{calls_accepted}
use Rattle.tree_model.specs.Folds.{Trace}
use Rattle.promises.specs.of_lawful_trace.Tables.{descriptor, closed_by, held_again as held_as, is_read_of, kept_by, opened_as, opened_by, reads_by}
use Rattle.promises.specs.Past.{Site, Named, CallSoFar, stamp_in}
use Rattle.promises.specs.After.{change, held_again, held_by, is_freed, is_read_by, taken_by}
use Rattle.past_laws.specs.Agreement.{waiting_as}
use Rattle.past_laws.proofs.Names.{number_eq, number_own, false_true, both, both_parts}
use Rattle.past_laws.proofs.Changing.{find_filtered, find_filtered_out}
use Rattle.past_laws.proofs.SitesSay.{SitesSay, has_number, is_there_in, table_in, same_there, part_step, part_still, numbers_still}
use Rattle.past_laws.proofs.SitesSteps.{entry}
use Rattle.past_laws.proofs.TreesCopies.{turned}

-- A call is accepted.

abbrev pub busier : Call → ℕ → Site → Site
busier words process x = record x { accepted = x.accepted + 1; descriptors = filter (λ d. not (is_freed words process d)) x.descriptors }

abbrev is_slot : ℕ → ℕ → Named → Bool
is_slot process fd d = (d.process == process) && (d.fd == fd)

all_kept : (ds : List Named) → filter (λ (d : Named). true) ds ≡ ds
all_kept [] = refl
all_kept (d ∷ ds) = ap (λ xs. d ∷ xs) (all_kept ds)

-- what a process has at a number once one of its numbers is freed, or one of another process
freed : (n process at fd : ℕ) (ds : List Named) → find (is_slot at fd) (filter (λ d. not (is_slot process n d)) ds) ≡ cond ((process == at) && (n == fd)) None (find (is_slot at fd) ds)
freed n process at fd ds = by ((process == at) && (n == fd)) refl
  where
    same : ((process == at) && (n == fd)) ≡ true → (d : Named) → is_slot at fd d ≡ true → not (is_slot process n d) ≡ false
    same h d e =
        let own = both_parts (process == at) (n == fd) h in
        let its = both_parts (d.process == at) (d.fd == fd) e in
        rw (number_eq d.process at its.0, number_eq d.fd fd its.1, number_eq process at own.0, number_eq n fd own.1, number_own at, number_own fd) refl

    other : ((process == at) && (n == fd)) ≡ false → (d : Named) → is_slot at fd d ≡ true → not (is_slot process n d) ≡ true
    other h d e = at_test (is_slot process n d) refl
      where
        at_test : (b : Bool) → is_slot process n d ≡ b → not b ≡ true
        at_test true k =
            let slot = both_parts (d.process == process) (d.fd == n) k in
            let its = both_parts (d.process == at) (d.fd == fd) e in
            false_true (sym h ∙ both (process == at) (n == fd)
            (subst (λ m. (m == at) ≡ true) (number_eq d.process process slot.0) its.0)
            (subst (λ m. (m == fd) ≡ true) (number_eq d.fd n slot.1) its.1))
        at_test false k = refl

    by : (b : Bool) → ((process == at) && (n == fd)) ≡ b → find (is_slot at fd) (filter (λ d. not (is_slot process n d)) ds) ≡ cond b None (find (is_slot at fd) ds)
    by true h = find_filtered_out (is_slot at fd) (λ d. not (is_slot process n d)) (same h) ds
    by false h = find_filtered (is_slot at fd) (λ d. not (is_slot process n d)) (other h) ds

split_choice : {Y : Type 0} (g : Y → Descriptor) (a b : Bool) (old : Option Y) → option_map g (cond (a && b) None old) ≡ cond a (cond b None (option_map g old)) (option_map g old)
split_choice g true true old = refl
split_choice g true false old = refl
split_choice g false b old = refl

same_choice : {Y : Type 0} (a : Bool) (y : Y) → y ≡ cond a y y
same_choice true y = refl
same_choice false y = refl

-- no number is freed
kept_slots : (words : Call) (process at fd : ℕ) (x : Site) → ((d : Named) → is_freed words process d ≡ false) → closed_by words fd (table_in x at fd) ≡ table_in x at fd
    → table_in (busier words process x) at fd ≡ cond (process == at) (closed_by words fd (table_in x at fd)) (table_in x at fd)
kept_slots words process at fd x none still =
    ap (λ ds. option_map (λ (d : Named). d.names) (find (is_slot at fd) ds)) (ap (λ t. filter t x.descriptors) (λ i d. not (none d i)) ∙ all_kept x.descriptors)
    ∙ (same_choice (process == at) (table_in x at fd) ∙ ap (λ y. cond (process == at) y (table_in x at fd)) (sym still))

slots_after : (words : Call) (process at fd : ℕ) (x : Site) → table_in (busier words process x) at fd ≡ cond (process == at) (closed_by words fd (table_in x at fd)) (table_in x at fd)
slots_after (call.Close n) process at fd x = ap (option_map (λ (d : Named). d.names)) (freed n process at fd x.descriptors) ∙ split_choice (λ (d : Named). d.names) (process == at) (n == fd) (find (is_slot at fd) x.descriptors)
slots_after words process at fd x = kept_slots words process at fd x (λ d. refl) refl

and_step : {Y : Type 0} (a b : Bool) (new old : Y) → cond a (cond b new old) old ≡ cond (a && b) new old
and_step true b new old = refl
and_step false b new old = refl

pub sites_accepted : (c : Config) (line s process : ℕ) (id : CallId) (words : Call) (before : Trace) (sites : List Site) → SitesSay c before sites → is_there_in sites s ≡ true
    → SitesSay c (entry line (Accept s process id words) ∷ before) (change (has_number s) (busier words process) sites)
sites_accepted c line s process id words before sites say there = record {
  numbers = numbers_still s (busier words process) (λ x. refl) sites ∙ say.numbers;
  up = λ z h. part_still (λ (x : Site). x.up) s z (busier words process) (λ x. refl) (λ x. refl) sites ∙ say.up z (was z h);
  boot = λ z h. part_still (λ (x : Site). x.boot) s z (busier words process) (λ x. refl) (λ x. refl) sites ∙ say.boot z (was z h);
  epoch = λ z. part_still (λ (x : Site). x.epoch) s z (busier words process) (λ x. refl) (λ x. refl) sites ∙ say.epoch z;
  joined = λ z. part_still (λ (x : Site). x.joined) s z (busier words process) (λ x. refl) (λ x. refl) sites ∙ say.joined z;
  accepted = λ z. part_step (λ (x : Site). x.accepted) (λ n. n + 1) s z (busier words process) (λ x. refl) (λ x. refl) sites there (calls_accepted before z) (say.accepted z);
  held = λ z h f. part_still (λ (x : Site). stamp_in x.held f) s z (busier words process) (λ x. refl) (λ x. refl) sites ∙ say.held z (was z h) f;
  table = λ z at fd. part_step (λ (x : Site). table_in x at fd) (λ old. cond (process == at) (closed_by words fd old) old) s z (busier words process) (λ x. refl) (slots_after words process at fd) sites there (descriptor before z at fd) (say.table z at fd)
      ∙ and_step (s == z) (process == at) (closed_by words fd (descriptor before z at fd)) (descriptor before z at fd);
  down = say.down;
}
  where
    was : (z : ℕ) → is_there_in (change (has_number s) (busier words process) sites) z ≡ true → is_there_in sites z ≡ true
    was z h = sym (same_there s z (busier words process) (λ x. refl) sites) ∙ h

-- A call is answered.

abbrev pub taking : Reply → CallSoFar → Site → Site
taking r k x = record x { descriptors = taken_by r k ++ held_again r k x.descriptors }

-- an open takes a number that stands for nothing
abbrev pub TakesFree : Reply → Trace → ℕ → ℕ → Type 0
TakesFree r before s process = (fd : ℕ) → r ≡ reply.Opened fd → descriptor before s process fd ≡ None

-- what a process has at a number once an open took one, or a read has opened a version again
abbrev taken : Reply → Call → ℕ → ℕ → ℕ → Option Descriptor → Option Descriptor → Option Descriptor
taken (reply.Opened n) words process at fd (Some d) old = cond ((process == at) && (n == fd)) (Some d) old
taken (reply.Data bytes) words process at fd opening old = cond ((process == at) && is_read_of words fd) (held_as opening old) old
taken _ words process at fd opening old = old

-- a number is read by where its descriptor is
read_slot : (words : Call) (process at fd : ℕ) (d : Named) → is_slot at fd d ≡ true → is_read_by words process d ≡ ((process == at) && is_read_of words fd)
read_slot (call.Read n at_byte len) process at fd d h =
    let its = both_parts (d.process == at) (d.fd == fd) h in
    ap (λ m. (m == process) && (d.fd == n)) (number_eq d.process at its.0) ∙ (ap (λ m. (at == process) && (m == n)) (number_eq d.fd fd its.1)
    ∙ (ap (λ b. b && (fd == n)) (turned at process) ∙ ap (λ b. (process == at) && b) (turned fd n)))
read_slot _ process at fd d h = never (process == at)
  where
    never : (b : Bool) → false ≡ (b && false)
    never true = refl
    never false = refl

still_slot : (opening : Option Descriptor) (at fd : ℕ) (b : Bool) (d : Named) → is_slot at fd (cond b (held_by opening d) d) ≡ is_slot at fd d
still_slot None at fd true d = refl
still_slot (Some o) at fd true d = refl
still_slot opening at fd false d = refl

held_name : (opening : Option Descriptor) (b : Bool) (d : Named) → Some (cond b (held_by opening d) d).names ≡ cond b (held_as opening (Some d.names)) (Some d.names)
held_name None true d = refl
held_name (Some o) true d = refl
held_name opening false d = refl

held_slots : (words : Call) (process at fd : ℕ) (opening : Option Descriptor) (ds : List Named)
    → option_map (λ (d : Named). d.names) (find (is_slot at fd) (change (is_read_by words process) (held_by opening) ds)) ≡ cond ((process == at) && is_read_of words fd) (held_as opening (option_map (λ (d : Named). d.names) (find (is_slot at fd) ds))) (option_map (λ (d : Named). d.names) (find (is_slot at fd) ds))
held_slots words process at fd opening [] = none opening ((process == at) && is_read_of words fd)
  where
    none : (o : Option Descriptor) (b : Bool) → None ≡ cond b (held_as o None) None
    none None true = refl
    none (Some d) true = refl
    none o false = refl
held_slots words process at fd opening (d ∷ ds) = over (is_slot at fd d) refl (held_slots words process at fd opening ds)
  where
    now : Bool → Named
    now b = cond b (held_by opening d) d

    over : (b : Bool) → is_slot at fd d ≡ b
        → option_map (λ (d : Named). d.names) (find (is_slot at fd) (change (is_read_by words process) (held_by opening) ds)) ≡ cond ((process == at) && is_read_of words fd) (held_as opening (option_map (λ (d : Named). d.names) (find (is_slot at fd) ds))) (option_map (λ (d : Named). d.names) (find (is_slot at fd) ds))
        → option_map (λ (d : Named). d.names) (cond (is_slot at fd (now (is_read_by words process d))) (Some (now (is_read_by words process d))) (find (is_slot at fd) (change (is_read_by words process) (held_by opening) ds)))
        ≡ cond ((process == at) && is_read_of words fd) (held_as opening (option_map (λ (d : Named). d.names) (cond b (Some d) (find (is_slot at fd) ds)))) (option_map (λ (d : Named). d.names) (cond b (Some d) (find (is_slot at fd) ds)))
    over true h later = rw (still_slot opening at fd (is_read_by words process d) d, h) (held_name opening (is_read_by words process d) d ∙ ap (λ b. cond b (held_as opening (Some d.names)) (Some d.names)) (read_slot words process at fd d h))
    over false h later = rw (still_slot opening at fd (is_read_by words process d) d, h) later

slots_taken : (r : Reply) (k : CallSoFar) (at fd : ℕ) (x : Site) (o : Option Descriptor) → k.granted ≡ o → table_in (taking r k x) at fd ≡ taken r k.words k.process at fd o (table_in x at fd)
slots_taken (reply.Opened n) k at fd x None e = rw e refl
slots_taken (reply.Opened n) k at fd x (Some d) e = rw e (choice ((k.process == at) && (n == fd)) (find (is_slot at fd) x.descriptors))
  where
    choice : (b : Bool) (old : Option Named) → option_map (λ (m : Named). m.names) (cond b (Some (record { process = k.process; fd = n; names = d })) old) ≡ cond b (Some d) (option_map (λ (m : Named). m.names) old)
    choice true old = refl
    choice false old = refl
slots_taken (reply.Data bytes) k at fd x o e = rw e (held_slots k.words k.process at fd o x.descriptors)
slots_taken r k at fd x o e = refl

-- the version that is kept doesn't hang on the opening's
held_alike : (version : Option OneVersion) (opening old : Option Descriptor) → held_as (option_map (λ (d : Descriptor). record d { steady = version }) opening) old ≡ held_as opening old
held_alike version None old = refl
held_alike version (Some o) None = refl
held_alike version (Some o) (Some d) = refl

-- as the fold has it
taken_so : (r : Reply) (words : Call) (before : Trace) (id : CallId) (s z process at fd : ℕ) (old : Option Descriptor) → reads_by (call_named before id) fd ≡ is_read_of words fd → ((n : ℕ) → r ≡ reply.Opened n → ((s == z) && (process == at)) ≡ true → n ≡ fd → old ≡ None)
    → cond (s == z) (taken r words process at fd (opened_as before id) old) old ≡ cond ((s == z) && (process == at)) (opened_by r before id fd old) old
taken_so (reply.Opened n) words before id s z process at fd old reads free = by (s == z) (process == at) (n == fd) (opened_as before id) refl refl refl
  where
    by : (a b e : Bool) (o : Option Descriptor) → (s == z) ≡ a → (process == at) ≡ b → (n == fd) ≡ e → cond a (taken (reply.Opened n) words process at fd o old) old ≡ cond (a && b) (cond e o old) old
    by false b e o f g h = refl
    by true false e None f g h = refl
    by true false e (Some d) f g h = rw g refl
    by true true false None f g h = refl
    by true true true None f g h = free n refl (both (s == z) (process == at) f g) (number_eq n fd h)
    by true true e (Some d) f g h = rw (g, h) refl
taken_so (reply.Data bytes) words before id s z process at fd old reads free = by (s == z) (process == at) ∙ ap (λ (b : Bool). cond ((s == z) && (process == at)) (cond b (held_as (opening_of before id) old) old) old) (sym reads)
  where
    by : (a b : Bool) → cond a (cond (b && is_read_of words fd) (held_as (opened_as before id) old) old) old ≡ cond (a && b) (cond (is_read_of words fd) (held_as (opening_of before id) old) old) old
    by false b = refl
    by true false = refl
    by true true = ap (λ (o : Option Descriptor). cond (is_read_of words fd) o old) (held_alike (kept_by (call_named before id) (version_of before id)) (opening_of before id) old)
taken_so r words before id s z process at fd old reads free = sym (same_choice (s == z) old) ∙ same_choice ((s == z) && (process == at)) old

pub sites_answered : (c : Config) (line s process : ℕ) (id : CallId) (r : Reply) (k : CallSoFar) (before : Trace) (sites : List Site) → k.process ≡ process → k.granted ≡ opened_as before id → call_named before id ≡ Some (waiting_as k) → TakesFree r before s process → SitesSay c before sites → is_there_in sites s ≡ true
    → SitesSay c (entry line (Answer s process id r) ∷ before) (change (has_number s) (taking r k) sites)
sites_answered c line s process id r k before sites of granted named free say there = record {
  numbers = numbers_still s (taking r k) (λ x. refl) sites ∙ say.numbers;
  up = λ z h. part_still (λ (x : Site). x.up) s z (taking r k) (λ x. refl) (λ x. refl) sites ∙ say.up z (was z h);
  boot = λ z h. part_still (λ (x : Site). x.boot) s z (taking r k) (λ x. refl) (λ x. refl) sites ∙ say.boot z (was z h);
  epoch = λ z. part_still (λ (x : Site). x.epoch) s z (taking r k) (λ x. refl) (λ x. refl) sites ∙ say.epoch z;
  joined = λ z. part_still (λ (x : Site). x.joined) s z (taking r k) (λ x. refl) (λ x. refl) sites ∙ say.joined z;
  accepted = λ z. part_still (λ (x : Site). x.accepted) s z (taking r k) (λ x. refl) (λ x. refl) sites ∙ say.accepted z;
  held = λ z h f. part_still (λ (x : Site). stamp_in x.held f) s z (taking r k) (λ x. refl) (λ x. refl) sites ∙ say.held z (was z h) f;
  table = λ z at fd. part_step (λ (x : Site). table_in x at fd) (taken r k.words k.process at fd (opened_as before id)) s z (taking r k) (λ x. refl) (λ x. slots_taken r k at fd x (opened_as before id) granted) sites there (descriptor before z at fd) (say.table z at fd)
      ∙ (ap (λ q. cond (s == z) (taken r k.words q at fd (opened_as before id) (descriptor before z at fd)) (descriptor before z at fd)) of
      ∙ taken_so r k.words before id s z process at fd (descriptor before z at fd) (ap (λ (w : Option Waiting). reads_by w fd) named) (frees z at fd));
  down = say.down;
}
  where
    was : (z : ℕ) → is_there_in (change (has_number s) (taking r k) sites) z ≡ true → is_there_in sites z ≡ true
    was z h = sym (same_there s z (taking r k) (λ x. refl) sites) ∙ h

    frees : (z at fd n : ℕ) → r ≡ reply.Opened n → ((s == z) && (process == at)) ≡ true → n ≡ fd → descriptor before z at fd ≡ None
    frees z at fd n e h g =
        let own = both_parts (s == z) (process == at) h in
        subst (λ m. descriptor before m at fd ≡ None) (number_eq s z own.0)
        (subst (λ m. descriptor before s m fd ≡ None) (number_eq process at own.1)
        (subst (λ m. descriptor before s process m ≡ None) g (free n e)))

-- Records that tell nothing of a site.

abbrev pub tells_of_site : Record → Bool
tells_of_site (Up site boot) = true
tells_of_site (Stopped site cause) = true
tells_of_site (Leave site e) = true
tells_of_site (Join site e members) = true
tells_of_site (Accept site process id words) = true
tells_of_site (Commit f site stamp parents content) = true
tells_of_site (Adopt f site stamp) = true
tells_of_site (Answer site process id r) = true
tells_of_site _ = false

pub sites_still : (c : Config) (line : ℕ) (what : Record) (before : Trace) (sites : List Site) → tells_of_site what ≡ false → SitesSay c before sites → SitesSay c (entry line what ∷ before) sites
sites_still c line (Up site boot) before sites h say = false_true (sym h)
sites_still c line (Stopped site cause) before sites h say = false_true (sym h)
sites_still c line (Leave site e) before sites h say = false_true (sym h)
sites_still c line (Join site e members) before sites h say = false_true (sym h)
sites_still c line (Accept site process id words) before sites h say = false_true (sym h)
sites_still c line (Commit f site stamp parents content) before sites h say = false_true (sym h)
sites_still c line (Adopt f site stamp) before sites h say = false_true (sym h)
sites_still c line (Answer site process id r) before sites h say = false_true (sym h)
sites_still c line what before sites h say = record { numbers = say.numbers; up = say.up; boot = say.boot; epoch = say.epoch; joined = say.joined; accepted = say.accepted; held = say.held; table = say.table; down = say.down }
