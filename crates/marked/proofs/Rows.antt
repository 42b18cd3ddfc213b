-- Every row of the table, by computation of the definitions.
use mathlib.Core.Path.{◌≡◌, refl}
use Rattle.sequences.specs.Sequence.{All, steps, trail, range, filter}
use Rattle.stores.specs.Stores.{run, in_row}
use Rattle.layout.specs.Words.{is_node, check_words, node_at, cell_at, size_of, marked, in_range, opened_by, empty_headers, formatted}
use Rattle.lists.specs.Lists.{asked}
use Rattle.lists.specs.Decide.{blank_from, turn, holds, all_hold, members, ordered_in, sound_in}
use Rattle.requests.specs.Requests.{next_cell, around, first_free, member_at, gap_at, site_in, look_of}
use Rattle.edits.specs.Edits.{insert_links, insert_writes, delete_links, delete_writes}
use Rattle.recovery.specs.Fits.{wrong, few_wrong, same, has_count, fit_of}
use Rattle.recovery.specs.Plan.{joined, is_in, blanks_asked, refusal_from, recover_of, recover_plan}
use Rattle.calls.specs.Calls.{format_answer, check_answer, length_answer, read_number, read_words, insert_plan, delete_plan}
use Rattle.marked.specs.Table.{Row, outcome, rows}

pub table : All (λ (r : Row). outcome r.call r.words ≡ r.outcome) rows
unfolding range filter steps trail run in_row is_node check_words node_at cell_at size_of marked in_range opened_by empty_headers formatted asked blank_from turn holds all_hold members ordered_in sound_in next_cell around first_free member_at gap_at site_in look_of insert_links insert_writes delete_links delete_writes wrong few_wrong same has_count fit_of joined is_in blanks_asked refusal_from recover_of recover_plan format_answer check_answer length_answer read_number read_words insert_plan delete_plan
table =
    (refl, (refl, (refl, (refl, (refl, (refl, (refl, (refl, (refl, (refl, (refl, (refl, (refl, (refl, (refl, (refl, (refl, (refl, (refl, (refl, (refl, (refl, (refl, (refl, (refl, (refl, (refl, (refl, (refl, (refl, (refl, (refl, (refl, (refl, (refl, (refl, (refl, (refl, (refl, tt)))))))))))))))))))))))))))))))))))))))
