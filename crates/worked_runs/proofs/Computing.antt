-- All that the runs compute with.
use Rattle.worked_runs.specs.Run.{state_after, answer_at, releases_from, releases, is_waiting, is_waiting_but}
use Rattle.worked_runs.specs.Bus.{is_calling, waits_as_it_begins}
use Rattle.tick.specs.Checks.{sample_bad, input_refusal, tick_refusal}
use Rattle.site.specs.Named.{timings_of}
use Rattle.tick.specs.Tick.{power_up_of, counted_in, decided_in, cycle_in, moved_in, accepted_tick, shown_after, refused_tick, tick_by, tick_of}
use Rattle.waiting.specs.Bound.{turn_ticks, waiting_bound}
use Rattle.preemption.specs.Clearing.{clearing_ticks}
use Rattle.serving.specs.Serving.{others_ticks, serving_ticks}
use Rattle.tick.specs.Course.{at_power_up, answer_to, is_accepted, onward}
use Rattle.tick.specs.Waiting.{green_begins}
use Rattle.tick.specs.Preemption.{clears}
use Rattle.tick.specs.Serving.{begins_bypass, is_served}
use Rattle.state.specs.State.{state_spoilt, fresh_state}
use Rattle.group.specs.Preemption.{is_pre_metering, is_held, steered_wish}
use Rattle.group.specs.Group.{all_red, ordinary_interval, interval_of, bypass_in, lanes_in, released_in, group_of, lanes_moved, moved_with, moved_of}
use Rattle.group.specs.Indications.{colour_shown, lower_shown, sign_shown, lane_shown, indications_of, all_dark}
use Rattle.group.specs.Intervals.{age_of, time_of, successor_of, next_interval}
use Rattle.group.specs.Range.{colour_spoilt, lane_spoilt, lane_kept, lane_spoilt_at, lanes_spoilt, group_spoilt}
use Rattle.lanes.specs.Intervals.{rise_of, passages_of, green_ends, green_at, yellow_at, lane_tick, has_been_red}
use Rattle.lanes.specs.Lanes.{lane_of, lanes_of, ending_of, lane_tick_at, lanes_tick, lane_entered, lanes_entered}
use Rattle.rounding.specs.Up.{rounded_up}
use Rattle.release.specs.Cycle.{to_nearest, cycle_ticks, offset_ticks}
use Rattle.release.specs.Release.{is_ready, ready_at, any_green, may_release, released_of, green_if, release_of}
use Rattle.bypass.specs.Bypass.{later_of, is_time_up, begins_at, ends_at, kept_of, mark_of, timer_of, bypass_of}
use Rattle.bypass.specs.Lanes.{place_of, priority_of, has_passed, endings_of, other_not_red, others_red, released_for, doing_of}
use Rattle.bypass.specs.Range.{bypass_spoilt}
use Rattle.turns.specs.Turn.{next_of}
use Rattle.period.specs.Counting.{timed_of, lane_counted, lane_counted_at, passages_at, counted_of, next_serial, closed_of, after_tick, greens_at, green_counted, after_release}
use Rattle.lane_speeds.specs.Speeds.{slower_of, after_vehicle, time_at, speeds_timed, last_measured, speeds_closed, spoilt_at, lane_speeds_spoilt, speeds_spoilt}
use Rattle.speed.specs.Speed.{speed_spoilt}
use lib.Ieee.{eq}
use Rattle.period.specs.Counts.{no_periods, good_of}
use Rattle.period.specs.Range.{lane_spoilt as countsLaneSpoilt, lane_kept as countsLaneKept, lane_spoilt_at as countsLaneSpoiltAt, metered_spoilt, metered_kept, metered_spoilt_at, counts_spoilt, last_ticks, periods_spoilt}
use Rattle.plan.specs.Entry.{on_day}
use Rattle.plan.specs.InForce.{applies, takes_over, in_force_of}
use Rattle.plan.specs.PastMidnight.{in_force_now}
use Rattle.wanted.specs.Decision.{day_of, entry_in_force, command_in_force, decision_of}
use Rattle.wanted.specs.Wish.{planned_of, source_of, choice_of}
use Rattle.inputs.specs.Samples.{metered_bad, lane_bad, samples_bad, calls_bad, travel_time}
use Rattle.inputs.specs.Commands.{carries_nothing, command_bad, commands_bad}
use Rattle.calendar.specs.Clock.{clock_bad}
use Rattle.calendar.specs.Dates.{days_before, month_length, is_date, last_of, day_before, day_number, weekday_of}
use Rattle.site.specs.Record.{spoilt_of, spoilt_site}
use Rattle.numbers.specs.Within.{is_within}
use Rattle.ranges.specs.Ranges.{timing_range, rate_range, table_range, entry_range, day_or_week_range, weekday_range, move_range, holiday_range, level_range}
use Rattle.ranges.specs.Sections.{range_of, is_good}
use Rattle.site.specs.Reading.{section_of, read_of}
use Rattle.site.specs.Writing.{words_of}
use Rattle.calendar.specs.Days.{in_month, today_of, yesterday_of}
use Rattle.calendar.specs.Holidays.{is_floating, in_week, day_type_of, is_named, is_fixed, is_moving}
use Rattle.levels.specs.Measures.{totals_of, speed_over, measures_of}
use Rattle.levels.specs.Levels.{reaches_of, is_slow, is_met}

-- To unfold this is to unfold what its line names.
unfoldable pub computing : Unit {0}
unfolding clearing_ticks clears is_pre_metering is_held steered_wish ordinary_interval sample_bad calls_bad is_waiting is_waiting_but waits_as_it_begins is_calling others_ticks serving_ticks begins_bypass is_served waiting_bound turn_ticks at_power_up answer_to is_accepted onward green_begins all_dark to_nearest cycle_ticks rounded_up day_type_of is_date days_before month_length day_number weekday_of in_month today_of last_of day_before yesterday_of is_floating in_week is_fixed is_moving is_named measures_of speed_over totals_of good_of is_met reaches_of is_slow words_of read_of section_of is_good range_of timing_range is_within state_after answer_at releases_from releases input_refusal tick_refusal timings_of power_up_of counted_in decided_in cycle_in moved_in accepted_tick shown_after refused_tick tick_by tick_of state_spoilt fresh_state all_red interval_of bypass_in lanes_in released_in group_of lanes_moved moved_with moved_of colour_shown lower_shown sign_shown lane_shown indications_of age_of time_of successor_of next_interval colour_spoilt lane_spoilt lane_kept lane_spoilt_at lanes_spoilt group_spoilt rise_of passages_of green_ends green_at yellow_at lane_tick lane_of lanes_of ending_of lane_tick_at lanes_tick lane_entered lanes_entered later_of is_time_up begins_at ends_at kept_of mark_of timer_of bypass_of place_of priority_of has_passed endings_of other_not_red others_red has_been_red released_for doing_of bypass_spoilt offset_ticks is_ready ready_at any_green may_release next_of released_of green_if release_of travel_time slower_of after_vehicle time_at speeds_timed last_measured speeds_closed spoilt_at lane_speeds_spoilt speeds_spoilt speed_spoilt eq timed_of lane_counted lane_counted_at passages_at counted_of next_serial closed_of after_tick greens_at green_counted after_release no_periods countsLaneSpoilt countsLaneKept countsLaneSpoiltAt metered_spoilt metered_kept metered_spoilt_at counts_spoilt last_ticks periods_spoilt day_of on_day applies takes_over in_force_of in_force_now entry_in_force entry_range day_or_week_range weekday_range move_range holiday_range level_range command_in_force decision_of planned_of source_of choice_of metered_bad lane_bad samples_bad carries_nothing command_bad commands_bad clock_bad spoilt_of spoilt_site rate_range table_range
computing = tt
