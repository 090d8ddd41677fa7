-- The run of two sites that merge is lawful: each of its records comes as it may. All of it computes.
use Rattle.std.specs.Prelude.{◌≡◌, refl, true}
use Rattle.std.proofs.Common.{inl, inr}
use Rattle.schedule_lines.specs.Cluster.{config_of}
use Rattle.lawful_trace.specs.Lawful.{EachComes}
use Rattle.lawful_trace.specs.LineRows.{are_told}
use Rattle.lawful_trace.specs.Disks.{keeps_calls}
use Rattle.lawful_trace.specs.Samples.{first_of, IsRight}
use Rattle.trace_samples.specs.PartedRun.{parted_run, parted_lines, parted_trace}

-- the first so many records come as they may

upto_1 : EachComes (config_of parted_lines) parted_lines (first_of 1 parted_trace)
upto_1 = (record { consistent = record { ascending = refl; row = record { up = refl; outside = refl; new = refl; later = refl; same = inl refl; member = refl } }; placed = refl; asked = record { asked = refl } }, tt)

upto_2 : EachComes (config_of parted_lines) parted_lines (first_of 2 parted_trace)
upto_2 = (record { consistent = record { ascending = refl; row = record { up = refl; outside = refl; new = refl; later = refl; same = inl refl; member = refl } }; placed = refl; asked = record { asked = refl } }, upto_1)

upto_3 : EachComes (config_of parted_lines) parted_lines (first_of 3 parted_trace)
upto_3 = (record { consistent = record { ascending = refl; row = record { gives = refl; served = refl; whole = refl } }; placed = refl; asked = tt }, upto_2)

upto_4 : EachComes (config_of parted_lines) parted_lines (first_of 4 parted_trace)
upto_4 = (record { consistent = record { ascending = refl; row = record { gives = refl; served = refl; whole = refl } }; placed = refl; asked = tt }, upto_3)

upto_5 : EachComes (config_of parted_lines) parted_lines (first_of 5 parted_trace)
upto_5 = (record { consistent = record { ascending = refl; row = record { up = refl; idle = refl; numbered = refl } }; placed = refl; asked = record { asked = refl } }, upto_4)

upto_6 : EachComes (config_of parted_lines) parted_lines (first_of 6 parted_trace)
upto_6 = (record { consistent = record { ascending = refl; row = record { up = refl; idle = refl; numbered = refl } }; placed = refl; asked = record { asked = refl } }, upto_5)

upto_7 : EachComes (config_of parted_lines) parted_lines (first_of 7 parted_trace)
upto_7 = (record { consistent = record { ascending = refl; row = record { opens = record { served = refl; step = record { accepted = _; named = refl; made_in = refl }; numbered = refl; asked = refl }; gives = refl; there = refl } }; placed = refl; asked = tt }, upto_6)

upto_8 : EachComes (config_of parted_lines) parted_lines (first_of 8 parted_trace)
upto_8 = (record { consistent = record { ascending = refl; row = record { opens = record { served = refl; step = record { accepted = _; named = refl; made_in = refl }; numbered = refl; asked = refl }; gives = refl; there = refl } }; placed = refl; asked = tt }, upto_7)

upto_9 : EachComes (config_of parted_lines) parted_lines (first_of 9 parted_trace)
upto_9 = (record { consistent = record { ascending = refl; row = record { gives = refl; there = refl; step = record { call = _; owned = refl; step = record { accepted = _; named = refl; made_in = refl }; asked = refl } } }; placed = refl; asked = tt }, upto_8)

upto_10 : EachComes (config_of parted_lines) parted_lines (first_of 10 parted_trace)
upto_10 = (record { consistent = record { ascending = refl; row = record { gives = refl; there = refl; step = record { call = _; owned = refl; step = record { accepted = _; named = refl; made_in = refl }; asked = refl } } }; placed = refl; asked = tt }, upto_9)

upto_11 : EachComes (config_of parted_lines) parted_lines (first_of 11 parted_trace)
upto_11 = (record { consistent = record { ascending = refl; row = record { opens = record { served = refl; step = record { accepted = _; named = refl; made_in = refl }; numbered = refl; asked = refl }; gives = refl; there = refl } }; placed = refl; asked = tt }, upto_10)

upto_12 : EachComes (config_of parted_lines) parted_lines (first_of 12 parted_trace)
upto_12 = (record { consistent = record { ascending = refl; row = record { opens = record { served = refl; step = record { accepted = _; named = refl; made_in = refl }; numbered = refl; asked = refl }; gives = refl; there = refl } }; placed = refl; asked = tt }, upto_11)

upto_13 : EachComes (config_of parted_lines) parted_lines (first_of 13 parted_trace)
upto_13 = (record { consistent = record { ascending = refl; row = record { epoch = _; inside = refl; instance = _; one = refl; at = refl; owes = refl; same = refl; above = refl; numbered = refl } }; placed = refl; asked = tt }, upto_12)

upto_14 : EachComes (config_of parted_lines) parted_lines (first_of 14 parted_trace)
upto_14 = (record { consistent = record { ascending = refl; row = record { epoch = _; inside = refl; instance = _; one = refl; at = refl; owes = refl; same = refl; above = refl; numbered = refl } }; placed = refl; asked = tt }, upto_13)

upto_15 : EachComes (config_of parted_lines) parted_lines (first_of 15 parted_trace)
upto_15 = (record { consistent = record { ascending = refl; row = record { gives = refl; served = refl; step = record { call = _; owned = refl; step = record { accepted = _; named = refl; made_in = refl }; asked = refl } } }; placed = refl; asked = tt }, upto_14)

upto_16 : EachComes (config_of parted_lines) parted_lines (first_of 16 parted_trace)
upto_16 = (record { consistent = record { ascending = refl; row = record { gives = refl; served = refl; step = record { call = _; owned = refl; step = record { accepted = _; named = refl; made_in = refl }; asked = refl } } }; placed = refl; asked = tt }, upto_15)

upto_17 : EachComes (config_of parted_lines) parted_lines (first_of 17 parted_trace)
upto_17 = (record { consistent = record { ascending = refl; row = record { gives = refl; there = refl; step = record { call = _; owned = refl; step = record { accepted = _; named = refl; made_in = refl }; asked = refl } } }; placed = refl; asked = tt }, upto_16)

upto_18 : EachComes (config_of parted_lines) parted_lines (first_of 18 parted_trace)
upto_18 = (record { consistent = record { ascending = refl; row = record { gives = refl; there = refl; step = record { call = _; owned = refl; step = record { accepted = _; named = refl; made_in = refl }; asked = refl } } }; placed = refl; asked = tt }, upto_17)

upto_19 : EachComes (config_of parted_lines) parted_lines (first_of 19 parted_trace)
upto_19 = (record { consistent = record { ascending = refl; row = record { epoch = _; inside = refl; instance = _; one = refl; at = refl; owes = refl; same = refl; above = refl; numbered = refl } }; placed = refl; asked = tt }, upto_18)

upto_20 : EachComes (config_of parted_lines) parted_lines (first_of 20 parted_trace)
upto_20 = (record { consistent = record { ascending = refl; row = record { epoch = _; inside = refl; instance = _; one = refl; at = refl; owes = refl; same = refl; above = refl; numbered = refl } }; placed = refl; asked = tt }, upto_19)

upto_21 : EachComes (config_of parted_lines) parted_lines (first_of 21 parted_trace)
upto_21 = (record { consistent = record { ascending = refl; row = record { gives = refl; served = refl; step = record { call = _; owned = refl; step = record { accepted = _; named = refl; made_in = refl }; asked = refl } } }; placed = refl; asked = tt }, upto_20)

upto_22 : EachComes (config_of parted_lines) parted_lines (first_of 22 parted_trace)
upto_22 = (record { consistent = record { ascending = refl; row = record { gives = refl; served = refl; step = record { call = _; owned = refl; step = record { accepted = _; named = refl; made_in = refl }; asked = refl } } }; placed = refl; asked = tt }, upto_21)

upto_23 : EachComes (config_of parted_lines) parted_lines (first_of 23 parted_trace)
upto_23 = (record { consistent = record { ascending = refl; row = record { caller = _; waits = refl; given = _; gives = refl; text = refl } }; placed = refl; asked = tt }, upto_22)

upto_24 : EachComes (config_of parted_lines) parted_lines (first_of 24 parted_trace)
upto_24 = (record { consistent = record { ascending = refl; row = record { caller = _; waits = refl; given = _; gives = refl; text = refl } }; placed = refl; asked = tt }, upto_23)

upto_25 : EachComes (config_of parted_lines) parted_lines (first_of 25 parted_trace)
upto_25 = (record { consistent = record { ascending = refl; row = record { inside = refl } }; placed = refl; asked = record { cause = refl } }, upto_24)

upto_26 : EachComes (config_of parted_lines) parted_lines (first_of 26 parted_trace)
upto_26 = (record { consistent = record { ascending = refl; row = record { inside = refl } }; placed = refl; asked = record { cause = refl } }, upto_25)

upto_27 : EachComes (config_of parted_lines) parted_lines (first_of 27 parted_trace)
upto_27 = (record { consistent = record { ascending = refl; row = record { up = refl; outside = refl; new = refl; later = refl; same = inl refl; member = refl } }; placed = refl; asked = record { asked = refl } }, upto_26)

upto_28 : EachComes (config_of parted_lines) parted_lines (first_of 28 parted_trace)
upto_28 = (record { consistent = record { ascending = refl; row = record { up = refl; outside = refl; new = refl; later = refl; same = inr refl; member = refl } }; placed = refl; asked = record { asked = refl } }, upto_27)

upto_29 : EachComes (config_of parted_lines) parted_lines (first_of 29 parted_trace)
upto_29 = (record { consistent = record { ascending = refl; row = record { gives = refl; served = refl; whole = refl } }; placed = refl; asked = tt }, upto_28)

upto_30 : EachComes (config_of parted_lines) parted_lines (first_of 30 parted_trace)
upto_30 = (record { consistent = record { ascending = refl; row = record { system = refl; epoch = _; inside = refl; synchronizes = refl; directory = refl; started = refl; shut = refl; unrefused = refl; alone = refl; wanted = refl; numbered = refl } }; placed = refl; asked = tt }, upto_29)

upto_31 : EachComes (config_of parted_lines) parted_lines (first_of 31 parted_trace)
upto_31 = (record { consistent = record { ascending = refl; row = record { opens = record { served = refl; step = record { accepted = _; named = refl; made_in = refl }; numbered = refl; asked = refl }; gives = refl; there = refl } }; placed = refl; asked = tt }, upto_30)

upto_32 : EachComes (config_of parted_lines) parted_lines (first_of 32 parted_trace)
upto_32 = (record { consistent = record { ascending = refl; row = record { epoch = _; inside = refl; known = refl; for = refl; above = refl; shut = refl } }; placed = refl; asked = tt }, upto_31)

upto_33 : EachComes (config_of parted_lines) parted_lines (first_of 33 parted_trace)
upto_33 = (record { consistent = record { ascending = refl; row = record { epoch = _; inside = refl; known = refl; for = refl; above = refl; shut = refl } }; placed = refl; asked = tt }, upto_32)

upto_34 : EachComes (config_of parted_lines) parted_lines (first_of 34 parted_trace)
upto_34 = (record { consistent = record { ascending = refl; row = record { gives = refl; served = refl; step = record { accepted = _; named = refl; made_in = refl }; numbered = refl; asked = refl } }; placed = refl; asked = tt }, upto_33)

upto_35 : EachComes (config_of parted_lines) parted_lines (first_of 35 parted_trace)
upto_35 = (record { consistent = record { ascending = refl; row = record { gives = refl; served = refl; step = record { accepted = _; named = refl; made_in = refl }; numbered = refl; asked = refl } }; placed = refl; asked = tt }, upto_34)

upto_36 : EachComes (config_of parted_lines) parted_lines (first_of 36 parted_trace)
upto_36 = (record { consistent = record { ascending = refl; row = record { gives = refl; there = refl; step = record { call = _; owned = refl; step = record { accepted = _; named = refl; made_in = refl }; asked = refl } } }; placed = refl; asked = tt }, upto_35)

upto_37 : EachComes (config_of parted_lines) parted_lines (first_of 37 parted_trace)
upto_37 = (record { consistent = record { ascending = refl; row = record { epoch = _; inside = refl; instance = _; one = refl; at = refl; owes = refl; same = refl; above = refl; numbered = refl } }; placed = refl; asked = tt }, upto_36)

upto_38 : EachComes (config_of parted_lines) parted_lines (first_of 38 parted_trace)
upto_38 = (record { consistent = record { ascending = refl; row = record { gives = refl; served = refl; step = record { call = _; owned = refl; step = record { accepted = _; named = refl; made_in = refl }; asked = refl } } }; placed = refl; asked = tt }, upto_37)

upto_39 : EachComes (config_of parted_lines) parted_lines (first_of 39 parted_trace)
upto_39 = (record { consistent = record { ascending = refl; row = record { caller = _; waits = refl; given = _; gives = refl; text = refl } }; placed = refl; asked = tt }, upto_38)

upto_40 : EachComes (config_of parted_lines) parted_lines (first_of 40 parted_trace)
upto_40 = (record { consistent = record { ascending = refl; row = record { epoch = _; inside = refl; known = refl; for = refl; above = refl; shut = refl } }; placed = refl; asked = tt }, upto_39)

told : are_told parted_lines parted_trace ≡ true
told = refl

calls : keeps_calls (config_of parted_lines) parted_lines parted_trace ≡ true
calls = refl

pub parted_is_lawful : IsRight parted_run
parted_is_lawful = record { each = upto_40; told = told; calls = calls }
