-- What holds of the lines of each input.
use Rattle.std.proofs.Common.{◌≡◌, ℕ, ◌+◌, List, [], ◌∷◌, ◌++◌, length, Some, refl, ap, sym, ◌∙◌, subst, append_assoc}
use Rattle.std.proofs.lemmas.List.{append-nil}
use Rattle.std.specs.List.{flat_map}
use Rattle.schedule_lines.specs.Cluster.{config_of}
use Rattle.schedule_lines.specs.declared.line.Line.{Line}
use Rattle.schedule_lines.specs.declared.line.Line.TheVariants as line
use Rattle.schedule_lines.specs.declared.line.ScheduleLine.{ScheduleLine}
use Rattle.schedule_lines.specs.declared.line.ScheduleLine.TheVariants.{Event}
use Rattle.the_run.specs.Worlds.{World, Limit}
use Rattle.the_run.specs.Runs.{run}
use Rattle.the_run.specs.Commands.{Asked, asked_lines, opening_lines, tree_lines}
use Rattle.schedule_run.proofs.of_world.Over.{act_over}
use Rattle.line_text.proofs.OneReading.{one_schedule}
use Rattle.schedule_run.proofs.Growing.{config_more, run_more}
use Rattle.schedule_run.proofs.Ending.{over_lasts}
use Rattle.std.proofs.lemmas.Grind.{flat_map-append}
use Rattle.input_run.specs.Inputs.{Input, StandsFor, opening_of}
use Rattle.input_run.specs.Inputs.Input.{Schedule, Calls}
use Rattle.input_run.proofs.Calls.{ask_cut, ask_once}
use Rattle.input_run.proofs.Schedules.{cut_at}

-- before the first line the opening is run
pub stands_first : (input : Input) → StandsFor input [] (opening_of input)
unfolding opening_of
stands_first Schedule = tt
stands_first Calls = record { calls = []; asked = tt; run = refl }

-- lines of bytes stand for one list of lines
pub stands_once : (input : Input) (all : List (List ℕ)) (xs ys : List ScheduleLine) → StandsFor input all xs → StandsFor input all ys → xs ≡ ys
stands_once Schedule all xs ys p q = one_schedule all xs ys p q
stands_once Calls all xs ys p q = p.run ∙ (ap tree_lines (ask_once all p.calls q.calls p.asked q.asked) ∙ sym q.run)

-- what stands for some lines of a run does so in its first lines too
pub stands_in_front : (input : Input) (front rest : List (List ℕ)) (lines : List ScheduleLine) → StandsFor input (front ++ rest) lines → (some : List ScheduleLine) × StandsFor input front some
stands_in_front Schedule front rest lines h = let cut = cut_at front rest [] lines h in (cut.first, cut.reads)
stands_in_front Calls front rest lines h =
    let cut = ask_cut front rest h.calls h.asked in
    (tree_lines cut.first, record { calls = cut.first; asked = cut.asks; run = refl })

-- ---- a limit that was passed stays passed ----

over_event : (lines : List ScheduleLine) (e : Line) (limit : Limit) → (run lines).over ≡ Some limit → (run (lines ++ Event e ∷ [])).over ≡ Some limit
over_event lines e limit h =
    ap (λ (w : World). w.over) (run_more lines (Event e) (length lines + 1) refl (config_more lines (Event e)))
    ∙ ((act_over (config_of lines) (length lines + 1) limit e (run lines) h).over ∙ h)

abbrev Passes : Limit → List ScheduleLine → Type 0
Passes limit lines = (run lines).over ≡ Some limit

one_more : (base more : List ScheduleLine) (a b : ScheduleLine) → ((base ++ a ∷ []) ++ b ∷ []) ++ more ≡ base ++ a ∷ b ∷ more
one_more base more a b = append_assoc (base ++ a ∷ []) (b ∷ []) more ∙ append_assoc base (a ∷ []) (b ∷ more)

over_calls : (calls : List Asked) (base lines : List ScheduleLine) (limit : Limit) → lines ≡ base ++ flat_map (asked_lines 100000) calls → Passes limit base → Passes limit lines
over_calls [] base lines limit e h = subst (Passes limit) (sym (e ∙ append-nil base)) h
over_calls (c ∷ cs) base lines limit e h =
    let call : Line = line.Call c.site c.process c.words in
    let settle : Line = line.Settle 100000 in
    over_calls cs ((base ++ Event call ∷ []) ++ Event settle ∷ []) lines limit
    (e ∙ sym (one_more base (flat_map (asked_lines 100000) cs) (Event call) (Event settle)))
    (over_event (base ++ Event call ∷ []) settle limit (over_event base call limit h))

-- the lines of a tree with more calls
calls_more : (first later calls : List Asked) (lines some : List ScheduleLine) → lines ≡ tree_lines calls → calls ≡ first ++ later → some ≡ tree_lines first → lines ≡ some ++ flat_map (asked_lines 100000) later
calls_more first later calls lines some e split f =
    e ∙ (ap tree_lines split ∙ (ap (λ (ls : List ScheduleLine). opening_lines 100000 ++ ls) (flat_map-append (asked_lines 100000) first later)
    ∙ (sym (append_assoc (opening_lines 100000) (flat_map (asked_lines 100000) first) (flat_map (asked_lines 100000) later))
    ∙ ap (λ (ls : List ScheduleLine). ls ++ flat_map (asked_lines 100000) later) (sym f))))

-- the limit that a run passes in some first lines of an input is that of the whole
pub over_stays : (input : Input) (front rest : List (List ℕ)) (lines some : List ScheduleLine) (limit : Limit) →
    StandsFor input (front ++ rest) lines → StandsFor input front some → (run some).over ≡ Some limit → (run lines).over ≡ Some limit
over_stays Schedule front rest lines some limit h k over =
    let cut = cut_at front rest [] lines h in
    let same : some ≡ cut.first = one_schedule front some cut.first k cut.reads in
    subst (Passes limit) (sym cut.split) (over_lasts rest cut.first cut.later limit (subst (Passes limit) same over) cut.goes_on)
over_stays Calls front rest lines some limit h k over =
    let cut = ask_cut front rest h.calls h.asked in
    let same : k.calls ≡ cut.first = ask_once front k.calls cut.first k.asked cut.asks in
    over_calls cut.later some lines limit (calls_more cut.first cut.later h.calls lines some h.run cut.split (k.run ∙ ap tree_lines same)) over
