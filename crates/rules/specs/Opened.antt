-- Every definition, for whoever computes with them: `unfolding opened` opens all of them.
use Rattle.rules.specs.Lists
use Rattle.rules.specs.Flash
use Rattle.rules.specs.Unit
use Rattle.rules.specs.Copy
use Rattle.rules.specs.Settled
use Rattle.rules.specs.Sound
use Rattle.rules.specs.Jobs
use Rattle.rules.specs.Views
use Rattle.rules.specs.Answers
use Rattle.rules.specs.Calls
use Rattle.rules.specs.Histories
use Rattle.rules.specs.Plain
use Rattle.rules.specs.Text
use Rattle.rules.specs.Listing
use Rattle.rules.specs.Table

unfoldable pub steps : Unit {0}
unfolding Lists.all Lists.filter Lists.first Lists.is_none Flash.is_geometry Flash.word Flash.lay Flash.erased Flash.apply Flash.idle Flash.steps_of Flash.made Flash.finish Flash.step Flash.run Flash.programs Flash.words
steps = tt

unfoldable pub descriptors : Unit {0}
unfolding Unit.stands Unit.descriptor Unit.blank Unit.data_tag Unit.mark_tag Unit.transaction_tag Unit.is_empty Unit.is_torn Unit.is_allocated Unit.is_pending Unit.is_current Unit.is_old Unit.is_void Unit.has_sector Unit.is_listed Unit.is_data Unit.is_mark Unit.is_transaction Unit.file_of Unit.is_tagged Unit.size Unit.is_open Unit.is_committed Unit.is_pending_file Unit.is_current_file Unit.lower Unit.lowest Unit.upward Unit.trim Unit.room_for Unit.room_of Unit.n Unit.gap Unit.lies Unit.is_placed Unit.disjoint Unit.apart Unit.all_apart Unit.is_header Unit.is_home
descriptors = tt

unfoldable pub images : Unit {0}
unfolding Copy.is_kept Copy.packed Copy.copies Copy.kept_size Copy.due Copy.fill Copy.copy_of Copy.is_movable Copy.is_copyable Settled.physical Settled.nowhere Settled.the_first Settled.units_from Settled.units_of Settled.is_in Settled.homes_for Settled.one_each Settled.homes_from Settled.is_left Settled.content_in Settled.entries_in Settled.entries_of Settled.survey Settled.pick Settled.select Settled.of_file Settled.pairs Settled.is_current_ok Settled.counts Settled.is_beside Settled.is_quiet Settled.has_header Settled.is_housed Settled.is_spare Settled.is_live Settled.is_still Sound.is_unfinished Sound.is_committing Sound.is_within Sound.is_same Sound.no_home Sound.home_at Sound.is_complete Sound.is_moving Sound.standing
images = tt

unfoldable pub jobs : Unit {0}
unfolding Jobs.erases Jobs.headers Jobs.format_job Jobs.label Jobs.seal Jobs.emptied Jobs.after_erase Jobs.move Jobs.reclaim Jobs.vacant Jobs.fits Jobs.fitting Jobs.key Jobs.lesser Jobs.least Jobs.reclaimed Jobs.greater Jobs.greatest Jobs.to_reclaim Jobs.chosen Jobs.place Jobs.become Jobs.fill_in Jobs.size_for Jobs.store_in Jobs.store_at Jobs.store_job Jobs.no_earlier Jobs.earlier_of Jobs.turn Jobs.turns Jobs.clean_up Jobs.commit_job Jobs.abort_job Jobs.finish_move Jobs.mend Jobs.end_transaction Jobs.tidy Jobs.mount_job
jobs = tt

unfoldable pub answers : Unit {0}
unfolding Views.committed_view Views.unless_mark Views.laid_over Views.transaction_view Views.content_of Answers.number Answers.from_number Answers.origin Answers.nothing Answers.given Answers.content Answers.job_of Answers.ended Answers.shown Answers.carry_out Calls.under Calls.refuse Calls.when_sound Calls.when_settled Calls.is_bad_file Calls.is_too_long Calls.has_none Calls.is_absent Calls.showing Calls.origin_of Calls.storing Calls.is_at Calls.showing_at Calls.in_geometry Calls.in_settled Calls.plan Calls.allowance Calls.list_of Calls.outcome
answers = tt

unfoldable pub histories : Unit {0}
unfolding Histories.no_files Histories.no_changes Histories.changed Histories.unless Histories.laid_down Histories.begun Histories.dropped Histories.changed_to Histories.committed Histories.is_done Histories.is_format Histories.is_content Histories.takes_bytes Histories.ended_in Histories.follow Histories.mounting Histories.move_bound Histories.tidy_bound Histories.repeat_bound Histories.mount_bound Plain.is_shut Plain.is_absent_in Plain.in_view Plain.bytes_in Plain.given_by Plain.ending Plain.when_settled Plain.stored Plain.plain_number Plain.content_by Plain.plain_content Plain.plain_file Plain.plain_origin Plain.from_by Plain.plain_from Plain.plainly Plain.cut_short Plain.plain_after Plain.is_settled Plain.is_room Plain.file_in Plain.room_in Plain.file_at Plain.ends_in Plain.seen Plain.is_change Plain.has_change Plain.is_unchanged Plain.is_other Histories.after_mounts
histories = tt

unfoldable pub texts : Unit {0}
unfolding Text.text Text.digits Text.decimal Text.behind Text.is_digit Text.number_from Text.number_of Text.number_in Text.line Listing.keyed Listing.refused_line Listing.file_line Listing.file_lines Listing.settled_lines Listing.lines_when Listing.listed Listing.listed_as Listing.listed_with Listing.listing Plain.count_from Plain.plain_line Plain.plain_lines Plain.plain_listing
texts = tt

unfoldable pub tables : Unit {0}
unfolding Table.no_file Table.a_file Table.entry_of Table.mark Table.says_none Table.says_file Table.is_usable Table.entries_from Table.fresh Table.mended Table.fills Table.mends Table.table_done Table.table_after Table.without_table Table.with_table Table.of_length Table.plan_through Table.through Table.fill_through Table.bears_out Table.shown_by Table.said_of Table.showing_or Table.judged Table.plan_read Table.read_through
tables = tt

unfoldable pub opened : Unit {0}
unfolding steps descriptors images jobs answers histories texts tables
opened = tt
