-- The lines of the generated load.
use Rattle.std.proofs.Common.{◌≡◌, ℕ, zero, suc, ◌+◌, ◌%◌, ◌<◌, ◌==◌, Bool, true, false, cond, ◌&&◌, nat_lt, List, [], ◌∷◌, ◌++◌, None, codes, refl, ap, ◌∙◌, arith}
use Rattle.std.specs.List.{AllByRecursion}
use Rattle.std.specs.Int.{to_be_bytes, w32}
use Rattle.std.proofs.lemmas.Bool.Decides.{nat_tests}
use Rattle.std.proofs.lemmas.Fmt.{decimal_digit}
use Rattle.the_run.proofs.of_plain_facts.Tests.{and_true}
use Rattle.rand_pcg.specs.Lcg.{Lcg}
use Rattle.rand_pcg.specs.Pcg.{pcg32}
use Rattle.trace_book.specs.declared.call.Call.{Call}
use Rattle.trace_book.specs.declared.call.Call.TheVariants as call
use Rattle.trace_book.specs.declared.call.OpenMode.TheVariants as how
use Rattle.schedule_lines.specs.Ranges.{is_between, is_site, is_word, is_byte, are_two_sites, fits_call}
use Rattle.schedule_lines.specs.Schedule.{AreInOrder}
use Rattle.schedule_lines.specs.declared.line.ScheduleLine.{ScheduleLine}
use Rattle.the_run.specs.Commands.{Drawn, drawn, closing_lines, load_call, load_case, load_events, load_lines, load_path, next_site, parts_from, reads_it, rejoins, resolves, restarts, writes_number}
use Rattle.generated_load.specs.Draws.{draw, draws_from, draws_of, seeded}
use Rattle.input_order_laws.specs.Inputs.{IsDrawn}
use Rattle.input_order_laws.proofs.Order.{AreEventsOf, both_events}
use Rattle.input_order_laws.proofs.Trees.{opened_in_order}

-- ---- what is asked ----

digit_word : (n : ℕ) → n < 8 → is_between 33 126 (48 + n) ≡ true
digit_word n few = grind (arith, nat_tests)

path_is_word : (name : ℕ) → name < 8 → is_word (load_path name) ≡ true
path_is_word name few =
    ap (λ (ds : List ℕ). is_word (codes "/f" ++ ds)) (decimal_digit name (omega (arith, few)))
    ∙ ap (λ (b : Bool). b && true) (digit_word name few)

byte_below : (n : ℕ) → is_byte (n % 256) ≡ true
byte_below n = grind (arith, nat_tests)

written_fits : (e : ℕ) → fits_call 3 (call.Write 0 0 (to_be_bytes w32 e)) ≡ true
written_fits e = grind (arith, nat_tests, byte_below)

next_is_site : (s : ℕ) → is_site 3 (next_site s) ≡ true
next_is_site s = grind (arith, nat_tests)

two_sites : (s : ℕ) → is_site 3 s ≡ true → are_two_sites 3 s (next_site s) ≡ true
two_sites s h = grind (arith, nat_tests)

-- ---- its lines ----

called : (site process : ℕ) (words : Call) → is_site 3 site ≡ true → is_between 1 8 process ≡ true → fits_call 3 words ≡ true → AreEventsOf 3 (load_call site process words)
called site process words s p w = (and_true (is_site 3 site && is_between 1 8 process) (fits_call 3 words) (and_true (is_site 3 site) (is_between 1 8 process) s p) w, (refl, tt))

writes : (e : ℕ) (d : Drawn) → IsDrawn d → AreEventsOf 3 (writes_number e d)
writes e d h =
    both_events 3 (load_call d.site 1 (call.Open (load_path d.name) how.Write)) (load_call d.site 1 (call.Write 0 0 (to_be_bytes w32 e)) ++ load_call d.site 1 (call.Close 0))
    (called d.site 1 (call.Open (load_path d.name) how.Write) h.site refl (and_true (is_word (load_path d.name)) true (path_is_word d.name h.name) refl))
    (both_events 3 (load_call d.site 1 (call.Write 0 0 (to_be_bytes w32 e))) (load_call d.site 1 (call.Close 0))
    (called d.site 1 (call.Write 0 0 (to_be_bytes w32 e)) h.site refl (written_fits e))
    (called d.site 1 (call.Close 0) h.site refl refl))

reads : (d : Drawn) → IsDrawn d → AreEventsOf 3 (reads_it d)
reads d h =
    both_events 3 (load_call d.site 1 (call.Open (load_path d.name) how.Read)) (load_call d.site 1 (call.Read 0 0 8) ++ load_call d.site 1 (call.Close 0))
    (called d.site 1 (call.Open (load_path d.name) how.Read) h.site refl (and_true (is_word (load_path d.name)) true (path_is_word d.name h.name) refl))
    (both_events 3 (load_call d.site 1 (call.Read 0 0 8)) (load_call d.site 1 (call.Close 0))
    (called d.site 1 (call.Read 0 0 8) h.site refl refl)
    (called d.site 1 (call.Close 0) h.site refl refl))

parts : (s : ℕ) → is_site 3 s ≡ true → AreEventsOf 3 (parts_from s (next_site s))
parts s h = (two_sites s h, (h, (refl, (next_is_site s, (refl, tt)))))

joins_again : (s : ℕ) → is_site 3 s ≡ true → AreEventsOf 3 (rejoins s (next_site s))
joins_again s h = (two_sites s h, (h, (refl, tt)))

starts_again : (s : ℕ) → is_site 3 s ≡ true → AreEventsOf 3 (restarts s)
starts_again s h = (h, (h, (h, (refl, tt))))

settles : (d : Drawn) → IsDrawn d → AreEventsOf 3 (resolves d)
settles d h =
    both_events 3 (load_call d.site 1 (call.Open (load_path d.name) (how.Resolve d.site))) (load_call d.site 1 (call.Close 0))
    (called d.site 1 (call.Open (load_path d.name) (how.Resolve d.site)) h.site refl (and_true (is_word (load_path d.name)) (is_site 3 d.site) (path_is_word d.name h.name) h.site))
    (called d.site 1 (call.Close 0) h.site refl refl)

either : (b : Bool) (xs ys : List ScheduleLine) → AreEventsOf 3 xs → AreEventsOf 3 ys → AreEventsOf 3 (cond b xs ys)
either true xs ys h k = h
either false xs ys h k = k

case_events : (e : ℕ) (d : Drawn) → IsDrawn d → (what : ℕ) → AreEventsOf 3 (load_case e d what)
case_events e d h what =
    either (nat_lt what 4) _ _ (called d.site 1 (call.Create (load_path d.name) None) h.site refl (and_true (is_word (load_path d.name)) true (path_is_word d.name h.name) refl))
    (either (nat_lt what 8) _ _ (writes e d h)
    (either (nat_lt what 10) _ _ (reads d h)
    (either (what == 10) _ _ (called d.site 1 (call.Unlink (load_path d.name)) h.site refl (path_is_word d.name h.name))
    (either (what == 11) _ _ (parts d.site h.site)
    (either (what == 12) _ _ (joins_again d.site h.site)
    (either (what == 13) _ _ (starts_again d.site h.site)
    (either (what == 14) _ _ (settles d h) (called d.site 1 (call.List (codes "/")) h.site refl refl))))))))

all_events : (e : ℕ) (draws : List Drawn) → AllByRecursion IsDrawn draws → AreEventsOf 3 (load_events e draws)
all_events e [] all = tt
all_events e (d ∷ draws) all = both_events 3 (load_case e d d.what) (load_events (e + 1) draws) (case_events e d all.0 d.what) (all_events (e + 1) draws all.1)

closing_events : AreEventsOf 3 closing_lines
closing_events = (refl, (refl, (refl, (refl, (refl, (refl, (refl, (refl, (refl, (refl, (refl, (refl, (refl, tt)))))))))))))

pub load_in_order : (draws : List Drawn) → AllByRecursion IsDrawn draws → AreInOrder (load_lines draws)
load_in_order draws all = opened_in_order 20000 (load_events 1 draws ++ closing_lines) refl (both_events 3 (load_events 1 draws) closing_lines (all_events 1 draws all) closing_events)

-- ---- its draws ----

name_below : (n : ℕ) → n % 8 < 8
name_below n = omega arith

is_drawn : (a s n : ℕ) → IsDrawn (drawn a s n)
is_drawn a s n = record { site = next_is_site s; name = name_below n }

draw_is : (g : Lcg) → IsDrawn (draw g).0
unfolding draw
draw_is g = is_drawn (pcg32 g).0 (pcg32 (pcg32 g).1).0 (pcg32 (pcg32 (pcg32 g).1).1).0

draws_are : (k : ℕ) (g : Lcg) → AllByRecursion IsDrawn (draws_from k g)
draws_are zero g = tt
draws_are (suc k) g = (draw_is g, draws_are k (draw g).1)

pub generated_in_order : (number events : ℕ) → AreInOrder (load_lines (draws_of number events))
generated_in_order number events = load_in_order (draws_of number events) (draws_are events (seeded number))
