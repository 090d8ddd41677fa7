-- The run of one site is lawful: each of its records comes as it may. All of it computes.
use Rattle.std.specs.Prelude.{◌≡◌, refl, true}
use Rattle.std.proofs.Common.{inl}
use Rattle.schedule_lines.specs.Cluster.{config_of}
use Rattle.lawful_trace.specs.Lawful.{EachComes}
use Rattle.lawful_trace.specs.LineRows.{are_told}
use Rattle.lawful_trace.specs.Disks.{keeps_calls}
use Rattle.lawful_trace.specs.Samples.{first_of, IsRight}
use Rattle.trace_samples.specs.FirstRun.{first_run, first_lines, first_trace}

-- the first so many records come as they may

upto_1 : EachComes (config_of first_lines) first_lines (first_of 1 first_trace)
upto_1 = (record { consistent = record { ascending = refl; row = record { up = refl; outside = refl; new = refl; later = refl; same = inl refl; member = refl } }; placed = refl; asked = record { asked = refl } }, tt)

upto_2 : EachComes (config_of first_lines) first_lines (first_of 2 first_trace)
upto_2 = (record { consistent = record { ascending = refl; row = record { gives = refl; served = refl; whole = refl } }; placed = refl; asked = tt }, upto_1)

upto_3 : EachComes (config_of first_lines) first_lines (first_of 3 first_trace)
upto_3 = (record { consistent = record { ascending = refl; row = record { up = refl; idle = refl; numbered = refl } }; placed = refl; asked = record { asked = refl } }, upto_2)

upto_4 : EachComes (config_of first_lines) first_lines (first_of 4 first_trace)
upto_4 = (record { consistent = record { ascending = refl; row = record { opens = record { served = refl; step = record { accepted = _; named = refl; made_in = refl }; numbered = refl; asked = refl }; gives = refl; there = refl } }; placed = refl; asked = tt }, upto_3)

upto_5 : EachComes (config_of first_lines) first_lines (first_of 5 first_trace)
upto_5 = (record { consistent = record { ascending = refl; row = record { gives = refl; there = refl; step = record { call = _; owned = refl; step = record { accepted = _; named = refl; made_in = refl }; asked = refl } } }; placed = refl; asked = tt }, upto_4)

upto_6 : EachComes (config_of first_lines) first_lines (first_of 6 first_trace)
upto_6 = (record { consistent = record { ascending = refl; row = record { opens = record { served = refl; step = record { accepted = _; named = refl; made_in = refl }; numbered = refl; asked = refl }; gives = refl; there = refl } }; placed = refl; asked = tt }, upto_5)

upto_7 : EachComes (config_of first_lines) first_lines (first_of 7 first_trace)
upto_7 = (record { consistent = record { ascending = refl; row = record { epoch = _; inside = refl; instance = _; one = refl; at = refl; owes = refl; same = refl; above = refl; numbered = refl } }; placed = refl; asked = tt }, upto_6)

upto_8 : EachComes (config_of first_lines) first_lines (first_of 8 first_trace)
upto_8 = (record { consistent = record { ascending = refl; row = record { gives = refl; served = refl; step = record { call = _; owned = refl; step = record { accepted = _; named = refl; made_in = refl }; asked = refl } } }; placed = refl; asked = tt }, upto_7)

upto_9 : EachComes (config_of first_lines) first_lines (first_of 9 first_trace)
upto_9 = (record { consistent = record { ascending = refl; row = record { gives = refl; there = refl; step = record { call = _; owned = refl; step = record { accepted = _; named = refl; made_in = refl }; asked = refl } } }; placed = refl; asked = tt }, upto_8)

upto_10 : EachComes (config_of first_lines) first_lines (first_of 10 first_trace)
upto_10 = (record { consistent = record { ascending = refl; row = record { epoch = _; inside = refl; instance = _; one = refl; at = refl; owes = refl; same = refl; above = refl; numbered = refl } }; placed = refl; asked = tt }, upto_9)

upto_11 : EachComes (config_of first_lines) first_lines (first_of 11 first_trace)
upto_11 = (record { consistent = record { ascending = refl; row = record { gives = refl; served = refl; step = record { call = _; owned = refl; step = record { accepted = _; named = refl; made_in = refl }; asked = refl } } }; placed = refl; asked = tt }, upto_10)

upto_12 : EachComes (config_of first_lines) first_lines (first_of 12 first_trace)
upto_12 = (record { consistent = record { ascending = refl; row = record { caller = _; waits = refl; given = _; gives = refl; text = refl } }; placed = refl; asked = tt }, upto_11)

upto_13 : EachComes (config_of first_lines) first_lines (first_of 13 first_trace)
upto_13 = (record { consistent = record { ascending = refl; row = record { up = refl; idle = refl; numbered = refl } }; placed = refl; asked = record { asked = refl } }, upto_12)

upto_14 : EachComes (config_of first_lines) first_lines (first_of 14 first_trace)
upto_14 = (record { consistent = record { ascending = refl; row = record { gives = refl; served = refl; step = record { accepted = _; named = refl; made_in = refl }; numbered = refl; asked = refl } }; placed = refl; asked = tt }, upto_13)

upto_15 : EachComes (config_of first_lines) first_lines (first_of 15 first_trace)
upto_15 = (record { consistent = record { ascending = refl; row = record { opens = record { served = refl; step = record { accepted = _; named = refl; made_in = refl }; numbered = refl; asked = refl }; gives = refl; there = refl } }; placed = refl; asked = tt }, upto_14)

upto_16 : EachComes (config_of first_lines) first_lines (first_of 16 first_trace)
upto_16 = (record { consistent = record { ascending = refl; row = record { caller = _; waits = refl; given = _; gives = refl; text = refl } }; placed = refl; asked = tt }, upto_15)

upto_17 : EachComes (config_of first_lines) first_lines (first_of 17 first_trace)
upto_17 = (record { consistent = record { ascending = refl; row = record { up = refl; idle = refl; numbered = refl } }; placed = refl; asked = record { asked = refl } }, upto_16)

upto_18 : EachComes (config_of first_lines) first_lines (first_of 18 first_trace)
upto_18 = (record { consistent = record { ascending = refl; row = record { gives = refl; there = refl; step = record { call = _; owned = refl; step = record { accepted = _; named = refl; made_in = refl }; asked = refl } } }; placed = refl; asked = tt }, upto_17)

upto_19 : EachComes (config_of first_lines) first_lines (first_of 19 first_trace)
upto_19 = (record { consistent = record { ascending = refl; row = record { caller = _; waits = refl; given = _; gives = refl; text = refl } }; placed = refl; asked = tt }, upto_18)

upto_20 : EachComes (config_of first_lines) first_lines (first_of 20 first_trace)
upto_20 = (record { consistent = record { ascending = refl; row = record { up = refl; idle = refl; numbered = refl } }; placed = refl; asked = record { asked = refl } }, upto_19)

upto_21 : EachComes (config_of first_lines) first_lines (first_of 21 first_trace)
upto_21 = (record { consistent = record { ascending = refl; row = record { epoch = _; inside = refl; instance = _; one = refl; at = refl; owes = refl; same = refl; above = refl; numbered = refl } }; placed = refl; asked = tt }, upto_20)

upto_22 : EachComes (config_of first_lines) first_lines (first_of 22 first_trace)
upto_22 = (record { consistent = record { ascending = refl; row = record { gives = refl; served = refl; step = record { call = _; owned = refl; step = record { accepted = _; named = refl; made_in = refl }; asked = refl } } }; placed = refl; asked = tt }, upto_21)

upto_23 : EachComes (config_of first_lines) first_lines (first_of 23 first_trace)
upto_23 = (record { consistent = record { ascending = refl; row = record { caller = _; waits = refl; given = _; gives = refl; text = refl } }; placed = refl; asked = tt }, upto_22)

upto_24 : EachComes (config_of first_lines) first_lines (first_of 24 first_trace)
upto_24 = (record { consistent = record { ascending = refl; row = record { up = refl; idle = refl; numbered = refl } }; placed = refl; asked = record { asked = refl } }, upto_23)

upto_25 : EachComes (config_of first_lines) first_lines (first_of 25 first_trace)
upto_25 = (record { consistent = record { ascending = refl; row = record { gives = refl; served = refl; step = record { accepted = _; named = refl; made_in = refl }; numbered = refl; asked = refl } }; placed = refl; asked = tt }, upto_24)

upto_26 : EachComes (config_of first_lines) first_lines (first_of 26 first_trace)
upto_26 = (record { consistent = record { ascending = refl; row = record { opens = record { served = refl; step = record { accepted = _; named = refl; made_in = refl }; numbered = refl; asked = refl }; gives = refl; there = refl } }; placed = refl; asked = tt }, upto_25)

upto_27 : EachComes (config_of first_lines) first_lines (first_of 27 first_trace)
upto_27 = (record { consistent = record { ascending = refl; row = record { caller = _; waits = refl; given = _; gives = refl; text = refl } }; placed = refl; asked = tt }, upto_26)

upto_28 : EachComes (config_of first_lines) first_lines (first_of 28 first_trace)
upto_28 = (record { consistent = record { ascending = refl; row = record { up = refl; idle = refl; numbered = refl } }; placed = refl; asked = record { asked = refl } }, upto_27)

upto_29 : EachComes (config_of first_lines) first_lines (first_of 29 first_trace)
upto_29 = (record { consistent = record { ascending = refl; row = record { gives = refl; there = refl; step = record { call = _; owned = refl; step = record { accepted = _; named = refl; made_in = refl }; asked = refl } } }; placed = refl; asked = tt }, upto_28)

upto_30 : EachComes (config_of first_lines) first_lines (first_of 30 first_trace)
upto_30 = (record { consistent = record { ascending = refl; row = record { caller = _; waits = refl; given = _; gives = refl; text = refl } }; placed = refl; asked = tt }, upto_29)

told : are_told first_lines first_trace ≡ true
told = refl

calls : keeps_calls (config_of first_lines) first_lines first_trace ≡ true
calls = refl

pub first_is_lawful : IsRight first_run
first_is_lawful = record { each = upto_30; told = told; calls = calls }
