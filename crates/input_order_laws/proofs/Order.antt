-- What is read stands in order, and events may follow a whole header.
use Rattle.std.proofs.Common.{◌≡◌, ℕ, Bool, true, ◌&&◌, List, [], ◌∷◌, ◌++◌, map, refl, sym, ap, ap₂, subst, ◌∙◌, append_assoc}
use Rattle.std.proofs.lemmas.List.{append-nil}
use Rattle.std.proofs.lemmas.List.Sums.{fold-append}
use Rattle.std.specs.List.{AllByRecursion}
use Rattle.the_run.proofs.of_plain_facts.Tests.{and_true}
use Rattle.locus_ids.specs.declared.config.Config.{Config}
use Rattle.schedule_lines.specs.Cluster.{no_cluster, with_line, config_of, is_whole}
use Rattle.schedule_lines.specs.Ranges.{fits_event}
use Rattle.schedule_lines.specs.Schedule.{MayStand, MayFollow, AreInOrder, ReadsAfter, IsSchedule}
use Rattle.schedule_lines.specs.Spelling.{Spells}
use Rattle.schedule_lines.specs.declared.line.ScheduleLine.{ScheduleLine}
use Rattle.schedule_lines.specs.declared.line.ScheduleLine.TheVariants.{Passed, Header, Event}
use Rattle.input_order_laws.specs.Inputs.{spelling}

read_after : (earlier : List ScheduleLine) (bytes : List (List ℕ)) (lines : List ScheduleLine) → ReadsAfter earlier bytes lines → MayFollow earlier lines
read_after earlier [] [] h = tt
read_after earlier [] (l ∷ ls) h = absurd h
read_after earlier (b ∷ bs) [] h = absurd h
read_after earlier (b ∷ bs) (l ∷ ls) h = (h.0.1, read_after (earlier ++ l ∷ []) bs ls h.1)

pub read_in_order : (bytes : List (List ℕ)) (lines : List ScheduleLine) → IsSchedule bytes lines → AreInOrder lines
read_in_order bytes lines h = read_after [] bytes lines h

spells : (l : ScheduleLine) → Spells (spelling l) l
spells Passed = refl
spells (Header h) = refl
spells (Event e) = refl

spelled_after : (earlier lines : List ScheduleLine) → MayFollow earlier lines → ReadsAfter earlier (map spelling lines) lines
spelled_after earlier [] h = tt
spelled_after earlier (l ∷ ls) h = ((spells l, h.0), spelled_after (earlier ++ l ∷ []) ls h.1)

-- lines in order are read from their spellings
pub spelled_in_order : (lines : List ScheduleLine) → AreInOrder lines → IsSchedule (map spelling lines) lines
spelled_in_order lines h = spelled_after [] lines h

first_follow : (earlier some later : List ScheduleLine) → MayFollow earlier (some ++ later) → MayFollow earlier some
first_follow earlier [] later h = tt
first_follow earlier (l ∷ some) later h = (h.0, first_follow (earlier ++ l ∷ []) some later h.1)

pub first_in_order : (some later : List ScheduleLine) → AreInOrder (some ++ later) → AreInOrder some
first_in_order some later h = first_follow [] some later h

-- the later ones may follow the earlier with the first ones
pub follow_both : (earlier some later : List ScheduleLine) → MayFollow earlier some → MayFollow (earlier ++ some) later → MayFollow earlier (some ++ later)
follow_both earlier [] later h k = subst (λ (ls : List ScheduleLine). MayFollow ls later) (append-nil earlier) k
follow_both earlier (l ∷ some) later h k =
    (h.0, follow_both (earlier ++ l ∷ []) some later h.1 (subst (λ (ls : List ScheduleLine). MayFollow ls later) (sym (append_assoc earlier (l ∷ []) some)) k))

pub more_in_order : (lines : List ScheduleLine) (l : ScheduleLine) → AreInOrder lines → MayStand lines l → AreInOrder (lines ++ l ∷ [])
more_in_order lines l h may = follow_both [] lines (l ∷ []) h (may, tt)

-- an event line in range for a cluster of n sites
abbrev pub IsEventOf : ℕ → ScheduleLine → Type 0
IsEventOf n Passed = ⊥
IsEventOf n (Header h) = ⊥
IsEventOf n (Event e) = fits_event n e ≡ true

abbrev pub AreEventsOf : ℕ → List ScheduleLine → Type 0
AreEventsOf n lines = AllByRecursion (IsEventOf n) lines

-- events may follow lines with this cluster, whose header is whole
pub events_follow : (c : Config) → is_whole c ≡ true → (earlier later : List ScheduleLine) → config_of earlier ≡ c → AreEventsOf c.sites later → MayFollow earlier later
events_follow c whole earlier [] is all = tt
events_follow c whole earlier (Passed ∷ later) is all = absurd all.0
events_follow c whole earlier (Header h ∷ later) is all = absurd all.0
events_follow c whole earlier (Event e ∷ later) is all = (
  and_true (is_whole (config_of earlier)) (fits_event (config_of earlier).sites e) (ap is_whole is ∙ whole) (ap (λ (x : Config). fits_event x.sites e) is ∙ all.0),
  events_follow c whole (earlier ++ Event e ∷ []) later (fold-append with_line no_cluster earlier (Event e ∷ []) ∙ is) all.1,
)

pub both_events : (n : ℕ) (xs ys : List ScheduleLine) → AreEventsOf n xs → AreEventsOf n ys → AreEventsOf n (xs ++ ys)
both_events n [] ys h k = k
both_events n (x ∷ xs) ys h k = (h.0, both_events n xs ys h.1 k)
