use Rattle.hook_meaning.proofs.Rows as rows
use Rattle.hook_meaning.proofs.worked.worked_passes.Goals as goal

pub returns-clause-added_again : goal.returns-clause-added_again
returns-clause-added_again c = rows.added_again

pub returns-clause-inactive : goal.returns-clause-inactive
returns-clause-inactive c = rows.inactive

pub returns-clause-load_order : goal.returns-clause-load_order
returns-clause-load_order c = rows.load_order

pub returns-clause-itself : goal.returns-clause-itself
returns-clause-itself c = rows.itself

pub returns-clause-added_in_mid_pass : goal.returns-clause-added_in_mid_pass
returns-clause-added_in_mid_pass c = rows.added_in_mid_pass

pub returns-clause-nested : goal.returns-clause-nested
returns-clause-nested c = rows.nested

pub returns-clause-accepted : goal.returns-clause-accepted
returns-clause-accepted c = rows.accepted

pub returns-clause-ends_of_priorities : goal.returns-clause-ends_of_priorities
returns-clause-ends_of_priorities c = rows.ends_of_priorities

pub returns-clause-empty_argument : goal.returns-clause-empty_argument
returns-clause-empty_argument c = rows.empty_argument

pub returns-clause-counted_before : goal.returns-clause-counted_before
returns-clause-counted_before c = rows.counted_before

pub returns-clause-enough_calls : goal.returns-clause-enough_calls
returns-clause-enough_calls c = rows.enough_calls

pub returns-clause-too_few_calls : goal.returns-clause-too_few_calls
returns-clause-too_few_calls c = rows.too_few_calls

pub returns-clause-asks_for_ever : goal.returns-clause-asks_for_ever
returns-clause-asks_for_ever c = rows.asks_for_ever

pub returns-clause-deepest : goal.returns-clause-deepest
returns-clause-deepest c = rows.deepest

pub returns-clause-too_deep : goal.returns-clause-too_deep
returns-clause-too_deep c = rows.too_deep

pub returns-clause-escaped : goal.returns-clause-escaped
returns-clause-escaped c = rows.escaped

pub returns-clause-half_escaped : goal.returns-clause-half_escaped
returns-clause-half_escaped c = rows.half_escaped

pub returns-clause-first_closing : goal.returns-clause-first_closing
returns-clause-first_closing c = rows.first_closing

pub returns-clause-own_content : goal.returns-clause-own_content
returns-clause-own_content c = rows.own_content

pub returns-clause-removed_in_mid_pass : goal.returns-clause-removed_in_mid_pass
returns-clause-removed_in_mid_pass c = rows.removed_in_mid_pass

pub returns-clause-not_scanned_again : goal.returns-clause-not_scanned_again
returns-clause-not_scanned_again c = rows.not_scanned_again

pub returns-clause-by_core : goal.returns-clause-by_core
returns-clause-by_core c = rows.by_core

pub returns-clause-active : goal.returns-clause-active
returns-clause-active c = rows.active

pub returns-clause-not_active : goal.returns-clause-not_active
returns-clause-not_active c = rows.not_active

pub returns-clause-registered : goal.returns-clause-registered
returns-clause-registered c = rows.registered

pub returns-clause-no_longer_active : goal.returns-clause-no_longer_active
returns-clause-no_longer_active c = rows.no_longer_active

pub returns-clause-turns : goal.returns-clause-turns
returns-clause-turns c = rows.turns

pub returns-clause-marked_answer : goal.returns-clause-marked_answer
returns-clause-marked_answer c = rows.marked_answer

pub returns-clause-marked_extra : goal.returns-clause-marked_extra
returns-clause-marked_extra c = rows.marked_extra

pub returns-clause-marked_once : goal.returns-clause-marked_once
returns-clause-marked_once c = rows.marked_once

pub returns-clause-marked_within : goal.returns-clause-marked_within
returns-clause-marked_within c = rows.marked_within

pub returns-clause-marked_empty : goal.returns-clause-marked_empty
returns-clause-marked_empty c = rows.marked_empty

pub returns-clause-unmarked_escape : goal.returns-clause-unmarked_escape
returns-clause-unmarked_escape c = rows.unmarked_escape

pub returns-clause-marked_calls : goal.returns-clause-marked_calls
returns-clause-marked_calls c = rows.marked_calls

pub returns-clause-too_few_to_mark : goal.returns-clause-too_few_to_mark
returns-clause-too_few_to_mark c = rows.too_few_to_mark

pub returns-clause-marked_turns : goal.returns-clause-marked_turns
returns-clause-marked_turns c = rows.marked_turns
