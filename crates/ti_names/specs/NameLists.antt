-- The names of capabilities by index (terminfo(5)), as the header term.h of ncurses 6.4 has them, which short ones are common,
-- and what the texts are, after the tables of terminfo(5).
use Prim.Native.String.{String}
use Rattle.std.specs.Prelude.{ℕ, Bool, true, false, List, [], ◌∷◌, codes, map, Option, slice_get}
use Rattle.ti_words.specs.declared.Kind.{Kind}
use Rattle.ti_words.specs.declared.Kind.TheVariants as kinds
use Rattle.ti_names.specs.declared.class.Class.{Class}
use Rattle.ti_names.specs.declared.class.Class.TheVariants.{Parameterized, Plain, Key, Label, List as IsList, File, Character, Input}

-- the short name of a capability, its long name, and whether the short name is common
abbrev pub Row : Type 0
Row = List ℕ × List ℕ × Bool

-- the same of a text, and what the text is
abbrev pub TextRow : Type 0
TextRow = Row × Class

abbrev common : String → String → Row
common short long = (codes short, codes long, true)

abbrev rare : String → String → Row
rare short long = (codes short, codes long, false)

-- the flags, each at its index
unfoldable pub all_flags : List Row
all_flags =
    common "bw" "auto_left_margin" ∷ common "am" "auto_right_margin" ∷ rare "xsb" "no_esc_ctlc" ∷
    rare "xhp" "ceol_standout_glitch" ∷ common "xenl" "eat_newline_glitch" ∷ common "eo" "erase_overstrike" ∷
    common "gn" "generic_type" ∷ common "hc" "hard_copy" ∷ common "km" "has_meta_key" ∷
    common "hs" "has_status_line" ∷ rare "in" "insert_null_glitch" ∷ common "da" "memory_above" ∷
    common "db" "memory_below" ∷ common "mir" "move_insert_mode" ∷ common "msgr" "move_standout_mode" ∷
    common "os" "over_strike" ∷ rare "eslok" "status_line_esc_ok" ∷ rare "xt" "dest_tabs_magic_smso" ∷
    common "hz" "tilde_glitch" ∷ common "ul" "transparent_underline" ∷ common "xon" "xon_xoff" ∷
    common "nxon" "needs_xon_xoff" ∷ rare "mc5i" "prtr_silent" ∷ rare "chts" "hard_cursor" ∷
    rare "nrrmc" "non_rev_rmcup" ∷ common "npc" "no_pad_char" ∷ rare "ndscr" "non_dest_scroll_region" ∷
    common "ccc" "can_change" ∷ common "bce" "back_color_erase" ∷ rare "hls" "hue_lightness_saturation" ∷
    rare "xhpa" "col_addr_glitch" ∷ rare "crxm" "cr_cancels_micro_mode" ∷ rare "daisy" "has_print_wheel" ∷
    rare "xvpa" "row_addr_glitch" ∷ rare "sam" "semi_auto_right_margin" ∷ rare "cpix" "cpi_changes_res" ∷
    rare "lpix" "lpi_changes_res" ∷ rare "OTbs" "backspaces_with_bs" ∷ rare "OTns" "crt_no_scrolling" ∷
    rare "OTnc" "no_correctly_working_cr" ∷ rare "OTMT" "gnu_has_meta_key" ∷ rare "OTNL" "linefeed_is_newline" ∷
    rare "OTpt" "has_hardware_tabs" ∷ rare "OTxr" "return_does_clr_eol" ∷ []

-- the numbers
unfoldable pub all_numbers : List Row
all_numbers =
    common "cols" "columns" ∷ common "it" "init_tabs" ∷ common "lines" "lines" ∷ common "lm" "lines_of_memory" ∷
    common "xmc" "magic_cookie_glitch" ∷ common "pb" "padding_baud_rate" ∷ rare "vt" "virtual_terminal" ∷
    rare "wsl" "width_status_line" ∷ rare "nlab" "num_labels" ∷ rare "lh" "label_height" ∷ rare "lw" "label_width" ∷
    rare "ma" "max_attributes" ∷ rare "wnum" "maximum_windows" ∷ common "colors" "max_colors" ∷
    common "pairs" "max_pairs" ∷ common "ncv" "no_color_video" ∷ rare "bufsz" "buffer_capacity" ∷
    rare "spinv" "dot_vert_spacing" ∷ rare "spinh" "dot_horz_spacing" ∷ rare "maddr" "max_micro_address" ∷
    rare "mjump" "max_micro_jump" ∷ rare "mcs" "micro_col_size" ∷ rare "mls" "micro_line_size" ∷
    rare "npins" "number_of_pins" ∷ rare "orc" "output_res_char" ∷ rare "orl" "output_res_line" ∷
    rare "orhi" "output_res_horz_inch" ∷ rare "orvi" "output_res_vert_inch" ∷ rare "cps" "print_rate" ∷
    rare "widcs" "wide_char_size" ∷ rare "btns" "buttons" ∷ rare "bitwin" "bit_image_entwining" ∷
    rare "bitype" "bit_image_type" ∷ rare "OTug" "magic_cookie_glitch_ul" ∷ rare "OTdC" "carriage_return_delay" ∷
    rare "OTdN" "new_line_delay" ∷ rare "OTdB" "backspace_delay" ∷ rare "OTdT" "horizontal_tab_delay" ∷
    rare "OTkn" "number_of_function_keys" ∷ []

-- the texts
unfoldable pub all_texts : List TextRow
all_texts =
    (common "cbt" "back_tab", Plain) ∷ (common "bel" "bell", Plain) ∷ (common "cr" "carriage_return", Plain) ∷
    (common "csr" "change_scroll_region", Parameterized 2) ∷ (common "tbc" "clear_all_tabs", Plain) ∷
    (common "clear" "clear_screen", Plain) ∷ (common "el" "clr_eol", Plain) ∷ (common "ed" "clr_eos", Plain) ∷
    (common "hpa" "column_address", Parameterized 1) ∷ (rare "cmdch" "command_character", Character) ∷
    (common "cup" "cursor_address", Parameterized 2) ∷ (common "cud1" "cursor_down", Plain) ∷
    (common "home" "cursor_home", Plain) ∷ (common "civis" "cursor_invisible", Plain) ∷
    (common "cub1" "cursor_left", Plain) ∷ (rare "mrcup" "cursor_mem_address", Parameterized 2) ∷
    (common "cnorm" "cursor_normal", Plain) ∷ (common "cuf1" "cursor_right", Plain) ∷
    (rare "ll" "cursor_to_ll", Plain) ∷ (common "cuu1" "cursor_up", Plain) ∷ (common "cvvis" "cursor_visible", Plain) ∷
    (common "dch1" "delete_character", Plain) ∷ (common "dl1" "delete_line", Plain) ∷
    (rare "dsl" "dis_status_line", Plain) ∷ (rare "hd" "down_half_line", Plain) ∷
    (common "smacs" "enter_alt_charset_mode", Plain) ∷ (common "blink" "enter_blink_mode", Plain) ∷
    (common "bold" "enter_bold_mode", Plain) ∷ (common "smcup" "enter_ca_mode", Plain) ∷
    (rare "smdc" "enter_delete_mode", Plain) ∷ (common "dim" "enter_dim_mode", Plain) ∷
    (common "smir" "enter_insert_mode", Plain) ∷ (common "invis" "enter_secure_mode", Plain) ∷
    (rare "prot" "enter_protected_mode", Plain) ∷ (common "rev" "enter_reverse_mode", Plain) ∷
    (common "smso" "enter_standout_mode", Plain) ∷ (common "smul" "enter_underline_mode", Plain) ∷
    (common "ech" "erase_chars", Parameterized 1) ∷ (common "rmacs" "exit_alt_charset_mode", Plain) ∷
    (common "sgr0" "exit_attribute_mode", Plain) ∷ (common "rmcup" "exit_ca_mode", Plain) ∷
    (rare "rmdc" "exit_delete_mode", Plain) ∷ (common "rmir" "exit_insert_mode", Plain) ∷
    (common "rmso" "exit_standout_mode", Plain) ∷ (common "rmul" "exit_underline_mode", Plain) ∷
    (common "flash" "flash_screen", Plain) ∷ (rare "ff" "form_feed", Plain) ∷ (rare "fsl" "from_status_line", Plain) ∷
    (rare "is1" "init_1string", Plain) ∷ (rare "is2" "init_2string", Plain) ∷ (rare "is3" "init_3string", Plain) ∷
    (rare "if" "init_file", File) ∷ (common "ich1" "insert_character", Plain) ∷ (common "il1" "insert_line", Plain) ∷
    (rare "ip" "insert_padding", Plain) ∷ (common "kbs" "key_backspace", Key) ∷ (rare "ktbc" "key_catab", Key) ∷
    (rare "kclr" "key_clear", Key) ∷ (rare "kctab" "key_ctab", Key) ∷ (common "kdch1" "key_dc", Key) ∷
    (rare "kdl1" "key_dl", Key) ∷ (common "kcud1" "key_down", Key) ∷ (rare "krmir" "key_eic", Key) ∷
    (rare "kel" "key_eol", Key) ∷ (rare "ked" "key_eos", Key) ∷ (rare "kf0" "key_f0", Key) ∷
    (common "kf1" "key_f1", Key) ∷ (common "kf10" "key_f10", Key) ∷ (common "kf2" "key_f2", Key) ∷
    (common "kf3" "key_f3", Key) ∷ (common "kf4" "key_f4", Key) ∷ (common "kf5" "key_f5", Key) ∷
    (common "kf6" "key_f6", Key) ∷ (common "kf7" "key_f7", Key) ∷ (common "kf8" "key_f8", Key) ∷
    (common "kf9" "key_f9", Key) ∷ (common "khome" "key_home", Key) ∷ (common "kich1" "key_ic", Key) ∷
    (rare "kil1" "key_il", Key) ∷ (common "kcub1" "key_left", Key) ∷ (rare "kll" "key_ll", Key) ∷
    (common "knp" "key_npage", Key) ∷ (common "kpp" "key_ppage", Key) ∷ (common "kcuf1" "key_right", Key) ∷
    (rare "kind" "key_sf", Key) ∷ (rare "kri" "key_sr", Key) ∷ (rare "khts" "key_stab", Key) ∷
    (common "kcuu1" "key_up", Key) ∷ (common "rmkx" "keypad_local", Plain) ∷ (common "smkx" "keypad_xmit", Plain) ∷
    (rare "lf0" "lab_f0", Label) ∷ (rare "lf1" "lab_f1", Label) ∷ (rare "lf10" "lab_f10", Label) ∷
    (rare "lf2" "lab_f2", Label) ∷ (rare "lf3" "lab_f3", Label) ∷ (rare "lf4" "lab_f4", Label) ∷
    (rare "lf5" "lab_f5", Label) ∷ (rare "lf6" "lab_f6", Label) ∷ (rare "lf7" "lab_f7", Label) ∷
    (rare "lf8" "lab_f8", Label) ∷ (rare "lf9" "lab_f9", Label) ∷ (rare "rmm" "meta_off", Plain) ∷
    (rare "smm" "meta_on", Plain) ∷ (rare "nel" "newline", Plain) ∷ (rare "pad" "pad_char", Character) ∷
    (common "dch" "parm_dch", Parameterized 1) ∷ (common "dl" "parm_delete_line", Parameterized 1) ∷
    (common "cud" "parm_down_cursor", Parameterized 1) ∷ (common "ich" "parm_ich", Parameterized 1) ∷
    (common "indn" "parm_index", Parameterized 1) ∷ (common "il" "parm_insert_line", Parameterized 1) ∷
    (common "cub" "parm_left_cursor", Parameterized 1) ∷ (common "cuf" "parm_right_cursor", Parameterized 1) ∷
    (common "rin" "parm_rindex", Parameterized 1) ∷ (common "cuu" "parm_up_cursor", Parameterized 1) ∷
    (rare "pfkey" "pkey_key", Parameterized 2) ∷ (rare "pfloc" "pkey_local", Parameterized 2) ∷
    (rare "pfx" "pkey_xmit", Parameterized 2) ∷ (rare "mc0" "print_screen", Plain) ∷ (rare "mc4" "prtr_off", Plain) ∷
    (rare "mc5" "prtr_on", Plain) ∷ (rare "rep" "repeat_char", Parameterized 2) ∷ (rare "rs1" "reset_1string", Plain) ∷
    (rare "rs2" "reset_2string", Plain) ∷ (rare "rs3" "reset_3string", Plain) ∷ (rare "rf" "reset_file", File) ∷
    (common "rc" "restore_cursor", Plain) ∷ (common "vpa" "row_address", Parameterized 1) ∷
    (common "sc" "save_cursor", Plain) ∷ (common "ind" "scroll_forward", Plain) ∷
    (common "ri" "scroll_reverse", Plain) ∷ (common "sgr" "set_attributes", Parameterized 9) ∷
    (common "hts" "set_tab", Plain) ∷ (rare "wind" "set_window", Parameterized 4) ∷ (common "ht" "tab", Plain) ∷
    (rare "tsl" "to_status_line", Parameterized 1) ∷ (rare "uc" "underline_char", Plain) ∷
    (rare "hu" "up_half_line", Plain) ∷ (rare "iprog" "init_prog", File) ∷ (rare "ka1" "key_a1", Key) ∷
    (rare "ka3" "key_a3", Key) ∷ (rare "kb2" "key_b2", Key) ∷ (rare "kc1" "key_c1", Key) ∷ (rare "kc3" "key_c3", Key) ∷
    (rare "mc5p" "prtr_non", Parameterized 1) ∷ (rare "rmp" "char_padding", Plain) ∷ (rare "acsc" "acs_chars", IsList) ∷
    (rare "pln" "plab_norm", Parameterized 2) ∷ (rare "kcbt" "key_btab", Key) ∷ (rare "smxon" "enter_xon_mode", Plain) ∷
    (rare "rmxon" "exit_xon_mode", Plain) ∷ (rare "smam" "enter_am_mode", Plain) ∷ (rare "rmam" "exit_am_mode", Plain) ∷
    (rare "xonc" "xon_character", Character) ∷ (rare "xoffc" "xoff_character", Character) ∷
    (rare "enacs" "ena_acs", Plain) ∷ (rare "smln" "label_on", Plain) ∷ (rare "rmln" "label_off", Plain) ∷
    (rare "kbeg" "key_beg", Key) ∷ (rare "kcan" "key_cancel", Key) ∷ (rare "kclo" "key_close", Key) ∷
    (rare "kcmd" "key_command", Key) ∷ (rare "kcpy" "key_copy", Key) ∷ (rare "kcrt" "key_create", Key) ∷
    (common "kend" "key_end", Key) ∷ (rare "kent" "key_enter", Key) ∷ (rare "kext" "key_exit", Key) ∷
    (rare "kfnd" "key_find", Key) ∷ (rare "khlp" "key_help", Key) ∷ (rare "kmrk" "key_mark", Key) ∷
    (rare "kmsg" "key_message", Key) ∷ (rare "kmov" "key_move", Key) ∷ (rare "knxt" "key_next", Key) ∷
    (rare "kopn" "key_open", Key) ∷ (rare "kopt" "key_options", Key) ∷ (rare "kprv" "key_previous", Key) ∷
    (rare "kprt" "key_print", Key) ∷ (rare "krdo" "key_redo", Key) ∷ (rare "kref" "key_reference", Key) ∷
    (rare "krfr" "key_refresh", Key) ∷ (rare "krpl" "key_replace", Key) ∷ (rare "krst" "key_restart", Key) ∷
    (rare "kres" "key_resume", Key) ∷ (rare "ksav" "key_save", Key) ∷ (rare "kspd" "key_suspend", Key) ∷
    (rare "kund" "key_undo", Key) ∷ (rare "kBEG" "key_sbeg", Key) ∷ (rare "kCAN" "key_scancel", Key) ∷
    (rare "kCMD" "key_scommand", Key) ∷ (rare "kCPY" "key_scopy", Key) ∷ (rare "kCRT" "key_screate", Key) ∷
    (rare "kDC" "key_sdc", Key) ∷ (rare "kDL" "key_sdl", Key) ∷ (rare "kslt" "key_select", Key) ∷
    (rare "kEND" "key_send", Key) ∷ (rare "kEOL" "key_seol", Key) ∷ (rare "kEXT" "key_sexit", Key) ∷
    (rare "kFND" "key_sfind", Key) ∷ (rare "kHLP" "key_shelp", Key) ∷ (rare "kHOM" "key_shome", Key) ∷
    (rare "kIC" "key_sic", Key) ∷ (rare "kLFT" "key_sleft", Key) ∷ (rare "kMSG" "key_smessage", Key) ∷
    (rare "kMOV" "key_smove", Key) ∷ (rare "kNXT" "key_snext", Key) ∷ (rare "kOPT" "key_soptions", Key) ∷
    (rare "kPRV" "key_sprevious", Key) ∷ (rare "kPRT" "key_sprint", Key) ∷ (rare "kRDO" "key_sredo", Key) ∷
    (rare "kRPL" "key_sreplace", Key) ∷ (rare "kRIT" "key_sright", Key) ∷ (rare "kRES" "key_srsume", Key) ∷
    (rare "kSAV" "key_ssave", Key) ∷ (rare "kSPD" "key_ssuspend", Key) ∷ (rare "kUND" "key_sundo", Key) ∷
    (rare "rfi" "req_for_input", Plain) ∷ (common "kf11" "key_f11", Key) ∷ (common "kf12" "key_f12", Key) ∷
    (rare "kf13" "key_f13", Key) ∷ (rare "kf14" "key_f14", Key) ∷ (rare "kf15" "key_f15", Key) ∷
    (rare "kf16" "key_f16", Key) ∷ (rare "kf17" "key_f17", Key) ∷ (rare "kf18" "key_f18", Key) ∷
    (rare "kf19" "key_f19", Key) ∷ (rare "kf20" "key_f20", Key) ∷ (rare "kf21" "key_f21", Key) ∷
    (rare "kf22" "key_f22", Key) ∷ (rare "kf23" "key_f23", Key) ∷ (rare "kf24" "key_f24", Key) ∷
    (rare "kf25" "key_f25", Key) ∷ (rare "kf26" "key_f26", Key) ∷ (rare "kf27" "key_f27", Key) ∷
    (rare "kf28" "key_f28", Key) ∷ (rare "kf29" "key_f29", Key) ∷ (rare "kf30" "key_f30", Key) ∷
    (rare "kf31" "key_f31", Key) ∷ (rare "kf32" "key_f32", Key) ∷ (rare "kf33" "key_f33", Key) ∷
    (rare "kf34" "key_f34", Key) ∷ (rare "kf35" "key_f35", Key) ∷ (rare "kf36" "key_f36", Key) ∷
    (rare "kf37" "key_f37", Key) ∷ (rare "kf38" "key_f38", Key) ∷ (rare "kf39" "key_f39", Key) ∷
    (rare "kf40" "key_f40", Key) ∷ (rare "kf41" "key_f41", Key) ∷ (rare "kf42" "key_f42", Key) ∷
    (rare "kf43" "key_f43", Key) ∷ (rare "kf44" "key_f44", Key) ∷ (rare "kf45" "key_f45", Key) ∷
    (rare "kf46" "key_f46", Key) ∷ (rare "kf47" "key_f47", Key) ∷ (rare "kf48" "key_f48", Key) ∷
    (rare "kf49" "key_f49", Key) ∷ (rare "kf50" "key_f50", Key) ∷ (rare "kf51" "key_f51", Key) ∷
    (rare "kf52" "key_f52", Key) ∷ (rare "kf53" "key_f53", Key) ∷ (rare "kf54" "key_f54", Key) ∷
    (rare "kf55" "key_f55", Key) ∷ (rare "kf56" "key_f56", Key) ∷ (rare "kf57" "key_f57", Key) ∷
    (rare "kf58" "key_f58", Key) ∷ (rare "kf59" "key_f59", Key) ∷ (rare "kf60" "key_f60", Key) ∷
    (rare "kf61" "key_f61", Key) ∷ (rare "kf62" "key_f62", Key) ∷ (rare "kf63" "key_f63", Key) ∷
    (rare "el1" "clr_bol", Plain) ∷ (rare "mgc" "clear_margins", Plain) ∷ (rare "smgl" "set_left_margin", Plain) ∷
    (rare "smgr" "set_right_margin", Plain) ∷ (rare "fln" "label_format", IsList) ∷
    (rare "sclk" "set_clock", Parameterized 3) ∷ (rare "dclk" "display_clock", Plain) ∷
    (rare "rmclk" "remove_clock", Plain) ∷ (rare "cwin" "create_window", Parameterized 5) ∷
    (rare "wingo" "goto_window", Parameterized 1) ∷ (rare "hup" "hangup", Plain) ∷
    (rare "dial" "dial_phone", Parameterized 1) ∷ (rare "qdial" "quick_dial", Parameterized 1) ∷
    (rare "tone" "tone", Plain) ∷ (rare "pulse" "pulse", Plain) ∷ (rare "hook" "flash_hook", Plain) ∷
    (rare "pause" "fixed_pause", Plain) ∷ (rare "wait" "wait_tone", Plain) ∷ (rare "u0" "user0", Plain) ∷
    (rare "u1" "user1", Plain) ∷ (rare "u2" "user2", Plain) ∷ (rare "u3" "user3", Plain) ∷ (rare "u4" "user4", Plain) ∷
    (rare "u5" "user5", Plain) ∷ (rare "u6" "user6", Input) ∷ (rare "u7" "user7", Plain) ∷ (rare "u8" "user8", Input) ∷
    (rare "u9" "user9", Plain) ∷ (rare "op" "orig_pair", Plain) ∷ (rare "oc" "orig_colors", Plain) ∷
    (rare "initc" "initialize_color", Parameterized 4) ∷ (rare "initp" "initialize_pair", Parameterized 7) ∷
    (rare "scp" "set_color_pair", Parameterized 1) ∷ (rare "setf" "set_foreground", Parameterized 1) ∷
    (rare "setb" "set_background", Parameterized 1) ∷ (rare "cpi" "change_char_pitch", Parameterized 1) ∷
    (rare "lpi" "change_line_pitch", Parameterized 1) ∷ (rare "chr" "change_res_horz", Parameterized 1) ∷
    (rare "cvr" "change_res_vert", Parameterized 1) ∷ (rare "defc" "define_char", Parameterized 3) ∷
    (rare "swidm" "enter_doublewide_mode", Plain) ∷ (rare "sdrfq" "enter_draft_quality", Plain) ∷
    (rare "sitm" "enter_italics_mode", Plain) ∷ (rare "slm" "enter_leftward_mode", Plain) ∷
    (rare "smicm" "enter_micro_mode", Plain) ∷ (rare "snlq" "enter_near_letter_quality", Plain) ∷
    (rare "snrmq" "enter_normal_quality", Plain) ∷ (rare "sshm" "enter_shadow_mode", Plain) ∷
    (rare "ssubm" "enter_subscript_mode", Plain) ∷ (rare "ssupm" "enter_superscript_mode", Plain) ∷
    (rare "sum" "enter_upward_mode", Plain) ∷ (rare "rwidm" "exit_doublewide_mode", Plain) ∷
    (rare "ritm" "exit_italics_mode", Plain) ∷ (rare "rlm" "exit_leftward_mode", Plain) ∷
    (rare "rmicm" "exit_micro_mode", Plain) ∷ (rare "rshm" "exit_shadow_mode", Plain) ∷
    (rare "rsubm" "exit_subscript_mode", Plain) ∷ (rare "rsupm" "exit_superscript_mode", Plain) ∷
    (rare "rum" "exit_upward_mode", Plain) ∷ (rare "mhpa" "micro_column_address", Parameterized 1) ∷
    (rare "mcud1" "micro_down", Plain) ∷ (rare "mcub1" "micro_left", Plain) ∷ (rare "mcuf1" "micro_right", Plain) ∷
    (rare "mvpa" "micro_row_address", Parameterized 1) ∷ (rare "mcuu1" "micro_up", Plain) ∷
    (rare "porder" "order_of_pins", IsList) ∷ (rare "mcud" "parm_down_micro", Parameterized 1) ∷
    (rare "mcub" "parm_left_micro", Parameterized 1) ∷ (rare "mcuf" "parm_right_micro", Parameterized 1) ∷
    (rare "mcuu" "parm_up_micro", Parameterized 1) ∷ (rare "scs" "select_char_set", Parameterized 1) ∷
    (rare "smgb" "set_bottom_margin", Plain) ∷ (rare "smgbp" "set_bottom_margin_parm", Parameterized 2) ∷
    (rare "smglp" "set_left_margin_parm", Parameterized 1) ∷ (rare "smgrp" "set_right_margin_parm", Parameterized 1) ∷
    (rare "smgt" "set_top_margin", Plain) ∷ (rare "smgtp" "set_top_margin_parm", Parameterized 1) ∷
    (rare "sbim" "start_bit_image", Plain) ∷ (rare "scsd" "start_char_set_def", Parameterized 2) ∷
    (rare "rbim" "stop_bit_image", Plain) ∷ (rare "rcsd" "stop_char_set_def", Parameterized 1) ∷
    (rare "subcs" "subscript_characters", IsList) ∷ (rare "supcs" "superscript_characters", IsList) ∷
    (rare "docr" "these_cause_cr", IsList) ∷ (rare "zerom" "zero_motion", Plain) ∷
    (rare "csnm" "char_set_names", Parameterized 1) ∷ (rare "kmous" "key_mouse", Key) ∷
    (rare "minfo" "mouse_info", Plain) ∷ (rare "reqmp" "req_mouse_pos", Plain) ∷
    (rare "getm" "get_mouse", Parameterized 1) ∷ (common "setaf" "set_a_foreground", Parameterized 1) ∷
    (common "setab" "set_a_background", Parameterized 1) ∷ (rare "pfxl" "pkey_plab", Parameterized 3) ∷
    (rare "devt" "device_type", Plain) ∷ (rare "csin" "code_set_init", Plain) ∷ (rare "s0ds" "set0_des_seq", Plain) ∷
    (rare "s1ds" "set1_des_seq", Plain) ∷ (rare "s2ds" "set2_des_seq", Plain) ∷ (rare "s3ds" "set3_des_seq", Plain) ∷
    (rare "smglr" "set_lr_margin", Parameterized 2) ∷ (rare "smgtb" "set_tb_margin", Parameterized 2) ∷
    (rare "birep" "bit_image_repeat", Parameterized 2) ∷ (rare "binel" "bit_image_newline", Plain) ∷
    (rare "bicr" "bit_image_carriage_return", Plain) ∷ (rare "colornm" "color_names", Parameterized 1) ∷
    (rare "defbi" "define_bit_image_region", Plain) ∷ (rare "endbi" "end_bit_image_region", Plain) ∷
    (rare "setcolor" "set_color_band", Parameterized 1) ∷ (rare "slines" "set_page_length", Parameterized 1) ∷
    (rare "dispc" "display_pc_char", Parameterized 1) ∷ (rare "smpch" "enter_pc_charset_mode", Plain) ∷
    (rare "rmpch" "exit_pc_charset_mode", Plain) ∷ (rare "smsc" "enter_scancode_mode", Plain) ∷
    (rare "rmsc" "exit_scancode_mode", Plain) ∷ (rare "pctrm" "pc_term_options", IsList) ∷
    (rare "scesc" "scancode_escape", Character) ∷ (rare "scesa" "alt_scancode_esc", Character) ∷
    (rare "ehhlm" "enter_horizontal_hl_mode", Plain) ∷ (rare "elhlm" "enter_left_hl_mode", Plain) ∷
    (rare "elohlm" "enter_low_hl_mode", Plain) ∷ (rare "erhlm" "enter_right_hl_mode", Plain) ∷
    (rare "ethlm" "enter_top_hl_mode", Plain) ∷ (rare "evhlm" "enter_vertical_hl_mode", Plain) ∷
    (rare "sgr1" "set_a_attributes", Parameterized 6) ∷ (rare "slength" "set_pglen_inch", Parameterized 1) ∷
    (rare "OTi2" "termcap_init2", Plain) ∷ (rare "OTrs" "termcap_reset", Plain) ∷
    (rare "OTnl" "linefeed_if_not_lf", Plain) ∷ (rare "OTbc" "backspace_if_not_bs", Plain) ∷
    (rare "OTko" "other_non_function_keys", IsList) ∷ (rare "OTma" "arrow_key_map", IsList) ∷
    (rare "OTG2" "acs_ulcorner", IsList) ∷ (rare "OTG3" "acs_llcorner", IsList) ∷ (rare "OTG1" "acs_urcorner", IsList) ∷
    (rare "OTG4" "acs_lrcorner", IsList) ∷ (rare "OTGR" "acs_ltee", IsList) ∷ (rare "OTGL" "acs_rtee", IsList) ∷
    (rare "OTGU" "acs_btee", IsList) ∷ (rare "OTGD" "acs_ttee", IsList) ∷ (rare "OTGH" "acs_hline", IsList) ∷
    (rare "OTGV" "acs_vline", IsList) ∷ (rare "OTGC" "acs_plus", IsList) ∷ (rare "meml" "memory_lock", Plain) ∷
    (rare "memu" "memory_unlock", Plain) ∷ (rare "box1" "box_chars_1", IsList) ∷ []

-- the rows of a kind: the place of a row in its list is the index of its capability
abbrev pub rows : Kind → List Row
rows kinds.Flag = all_flags
rows kinds.Number = all_numbers
rows kinds.Text = map (λ row. row.0) all_texts

-- what the text at an index is
abbrev pub class_at : ℕ → Option Class
class_at index = slice_get (map (λ row. row.1) all_texts) index
