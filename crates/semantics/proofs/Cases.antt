-- The cases hold, the starred ones of document 01, those of document 02 and the further ones, and what demand 3 asks can be met, with no
-- cell to spare too: each by computation. Where it is met, demand 3 speaks.
-- Assumes nothing.
use mathlib.Core.Path.{◌≡◌, refl}
use Prim.Native.Nat.{ℕ}
use mathlib.Core.List.{List}
use mathlib.Core.Bool.{Bool, true, false}
use mathlib.Core.Option.{or_else}
use lib.Dec.{T, lit≤}
use lib.ListN.{length, replicate}
use Rattle.semantics.specs.Basics as Basics
use Rattle.semantics.specs.Totals as Totals
use Rattle.semantics.specs.Cells as Cells
use Rattle.semantics.specs.Words as Words
use Rattle.semantics.specs.Narrow as Narrow
use Rattle.semantics.specs.Wide as Wide
use Rattle.semantics.specs.Step as Step
use Rattle.semantics.specs.TotalsRule as TotalsRule
use Rattle.semantics.specs.Refusals as Refusals
use Rattle.semantics.specs.Run as Run
use Rattle.semantics.specs.Demands as Demands
use Rattle.semantics.specs.Text as Text
use Rattle.semantics.specs.Records as Records
use Rattle.semantics.specs.RunFile as RunFile
use Rattle.semantics.specs.RunFile.{Contents}
use Rattle.semantics.specs.Listing as Listing
use Rattle.semantics.specs.Widths.{width_of}
use Rattle.semantics.specs.Response as Response
use Rattle.semantics.specs.Convert as Convert
use Rattle.semantics.proofs.Widths.{packing-of}
use Rattle.semantics.proofs.DemandsHold.{demands}
use Rattle.semantics.specs.Cases as Cases
use Rattle.semantics.specs.Cases.{result_of, holds, cases, in_full, longer, edge, wide_in_full, Meets}

-- every definition that a run computes with: to unfold `computed` is to unfold them all
unfoldable pub computed : Unit {0}
unfolding
    result_of holds cases in_full longer edge wide_in_full
    Cases.holds_at Cases.wide_tables Cases.wide_in_full_file Cases.wide_in_full_text
    Cases.conversions Cases.in_full_widened Cases.mixed_file Cases.mixed_widened Cases.handed_by Cases.converts_by Cases.retained
    Cases.result_with Cases.left_by Cases.same_list Cases.read_by Cases.refused_by Cases.lent Cases.lent_as Cases.reading_of
    Cases.starred Cases.capped Cases.small_tables Cases.one_room Cases.one_room_file Cases.one_room_text Cases.in_full_file Cases.in_full_text Cases.gone_file Cases.gone_text
    Cases.further_numbers Cases.further_calls Cases.further_files Cases.further_texts Cases.further_runs Cases.every_file Cases.every_text
    Totals.held_at Totals.plus_at Totals.caps Totals.caps_at Totals.same_total Narrow.narrow
    Cells.code_of Cells.total_of Cells.keyed Cells.lookup Cells.is_empty Cells.used_cells
    or_else Basics.all_of Basics.any_of Basics.count_of Basics.is_some Basics.first_from Basics.first_below Basics.some_below
    Words.is_power_from Words.size_allowed Words.home_in Words.is_live_key Words.cell_from Words.decode Words.encode
    Words.kind_of Words.decode_operation Words.takes_amount Words.is_kind Words.carried Words.answer_word
    Wide.is_wide_total Wide.is_nothing Wide.wide_cell_allowed Wide.wide_operation_allowed
    Narrow.tombstone_word Narrow.cell_allowed Narrow.operation_allowed Narrow.room_home Narrow.room_sum
    Step.sight Step.makes Step.fresh Step.after Step.count_lost Step.logged Step.idled Step.answered Step.done_count Step.updating Step.effect
    Step.read_own Step.read Step.exhausted Step.bounded Step.held_cell Step.fate_cell Step.new_cell Step.swap_answer Step.same_cell
    Step.swapped Step.step Step.passed Step.place_of Step.taken Step.act_in Step.act_of Step.applied Step.entry Step.fresh_row Step.begin Step.run
    TotalsRule.is_add TotalsRule.is_find_or_add TotalsRule.only_finds_and_adds TotalsRule.is_present TotalsRule.adds_to TotalsRule.is_added
    TotalsRule.counts_at TotalsRule.rooms_to_make TotalsRule.CellsSuffice
    Refusals.first_met Refusals.at_first Refusals.stands_lower Refusals.is_repeated Refusals.is_cut_off Refusals.is_unreachable Refusals.size_not_allowed Refusals.too_many
    Refusals.too_short Refusals.bad_cell Refusals.bad_operation Refusals.bad_entry Refusals.repeated_key Refusals.unreachable_key
    Refusals.run_conditions Refusals.run_refusal
    Run.over Run.machine Run.answer_of Run.outcome_of Run.accepted_result Run.refused_result Run.result_if Run.run_result
    Text.text Text.decimal_in Text.decimal Text.texts_below Text.handed
    Records.fault_at Records.goes_on Records.records_from Records.records Records.record_conditions
    RunFile.has_mark RunFile.mark_in RunFile.mark_at RunFile.may_follow RunFile.past
    RunFile.mark_cut RunFile.mark_wrong RunFile.body_cut RunFile.body_wrong RunFile.one_too_many RunFile.conditions_at RunFile.next_of
    RunFile.slice_too_short RunFile.file_too_long RunFile.file_conditions RunFile.file_refusal RunFile.reader_refusal RunFile.load RunFile.contents
    RunFile.accepted_reading RunFile.refused_reading RunFile.reading
    Listing.kind_word Listing.code_word Listing.narrow_text Listing.wide_text Listing.refusal_text Listing.counts_text Listing.operation_text
    Listing.answer_text Listing.row_text Listing.log_text Listing.contents_text Listing.cell_text Listing.run_text Listing.listing
    Response.run_of Response.listed Response.response_in Response.is_wide Response.response
    Convert.record_of Convert.record_at Convert.file_records Convert.total_bytes_of Convert.bytes_of Convert.file_of Convert.converted
    Convert.is_unfit Convert.is_unfit_in Convert.unfit_at Convert.result_too_long Convert.conversion_conditions Convert.conversion_refusal
    Convert.conversion_if Convert.conversion Convert.conversion_text
computed = tt

pub covered : T (Basics.all_of holds cases)
unfolding computed
covered = tt

pub met : Meets false in_full × Meets false longer × Meets false edge × Meets true wide_in_full
unfolding computed
met = (
  record { accepted = refl; only = tt; finished = refl; suffice = lit≤ tt },
  record { accepted = refl; only = tt; finished = refl; suffice = lit≤ tt },
  record { accepted = refl; only = tt; finished = refl; suffice = lit≤ tt },
  record { accepted = refl; only = tt; finished = refl; suffice = lit≤ tt },
)

pub speaks : (wide : Bool) (j : Contents) → Meets wide j → (k : ℕ)
    → let W = width_of wide in
    Cells.lookup k (Demands.cells_of W (result_of wide j).cells)
    ≡ TotalsRule.expected (Words.setting_of W (length j.cells)) (Demands.cells_of W j.cells) (Demands.operations_of W j.operations) k
unfolding result_of Cases.result_with Demands.TotalsKept
speaks wide j h =
    let slice : List ℕ = replicate (length j.operations) 9 in
    ((demands (packing-of wide) j.cells j.operations j.schedule slice slice).accepted h.accepted).totals h.only h.finished h.suffice
